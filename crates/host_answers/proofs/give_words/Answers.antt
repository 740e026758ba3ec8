-- By the case of the answer. Assumes nothing.
use Rattle.std.proofs.Common.{rules}
use Rattle.host_answers.proofs.Showing.{shown_words}
use Rattle.host_answers.proofs.give_words.Goals as goal

pub returns : goal.returns
returns c =
    rw (c.give.ensures.number, c.give.ensures.out_after)
    (shown_words c.args.given c.map.result c.args.out.now c.map.ensures.cases (λ x ws k. search rules))
