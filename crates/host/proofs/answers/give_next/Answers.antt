-- By the case of the answer. Assumes nothing.
use Rattle.std.proofs.Common.{refl, ◌++◌, rules}
use Rattle.next.specs.Next.{next_outcome}
use Rattle.next.specs.declared.parts.Parts.{Parts}
use Rattle.host_answers.proofs.Showing.{shown_as}
use Rattle.host.proofs.answers.give_next.Goals as goal

pub returns : goal.returns
returns c =
    rw (c.give.ensures.number, c.give.ensures.out_after)
    (shown_as (λ (x : Parts). x.carry.c ++ x.done.c ++ x.omega.c) next_outcome (λ x. refl) (λ e. refl) c.args.given c.map.result c.args.out.now
    c.map.ensures.cases (λ x ws k. search rules))
