-- The gathered words are added, and then the missing ones. Assumes nothing.
use Rattle.std.proofs.Common.{refl, ap, ◌∙◌}
use Rattle.frame.specs.declared.Frame.TheVariants.{Close}
use Rattle.frames.specs.After.{after_accepted}
use Rattle.frames.proofs.Gathering.{ready_seen, other_gathers, other_same}
use Rattle.frames.proofs.Turns.{accepted_in}
use Rattle.frames.proofs.Run.close.Goals as goal

pub invariant_of-self : goal.invariant_of-self
invariant_of-self c =
    let a = accepted_in (ap (λ v. v.state) c.self.view_is) Close c.requires in
    let g = c.add_gathered.ensures in
    rw c.add_missing.ensures (other_gathers Close g.gathers g.none a refl)

pub returns-clause-state : goal.returns-clause-state
returns-clause-state c =
    let a = accepted_in (ap (λ v. v.state) c.self.view_is) Close c.requires in
    let g = c.add_gathered.ensures in
    rw c.add_missing.ensures (other_same Close g.gathers g.none a refl)
    ∙ ap (after_accepted Close) (g.same ∙ ap (λ v. v.state) c.self.view_is)

pub returns-clause-ready : goal.returns-clause-ready
returns-clause-ready c = ready_seen (invariant_of-self c)
