-- The words are gathered behind those that are there. Assumes nothing.
use Rattle.std.proofs.Common.{Some, ap, ◌∙◌}
use Rattle.frame.specs.declared.Frame.TheVariants.{Words}
use Rattle.runs.proofs.Steps.{accepted}
use Rattle.frames.specs.After.{after_accepted}
use Rattle.frames.proofs.Gathering.{ready_seen, more_gathers, more_same}
use Rattle.frames.proofs.Turns.{accepted_in}
use Rattle.frames.proofs.Run.gather.Goals as goal

pub invariant_of-self : goal.invariant_of-self
invariant_of-self c =
    let words = c.args.words.now in
    let a = accepted_in (ap (λ v. v.state) c.self.view_is) (Words words) c.requires.accepted in
    rw c.extend.ensures (more_gathers c.make_room.ensures.gathers (accepted _ (Some (Words words)) a).1)

pub returns-clause-state : goal.returns-clause-state
returns-clause-state c =
    let words = c.args.words.now in
    let a = accepted_in (ap (λ v. v.state) c.self.view_is) (Words words) c.requires.accepted in
    rw c.extend.ensures (more_same c.make_room.ensures.gathers (accepted _ (Some (Words words)) a).1)
    ∙ ap (after_accepted (Words words)) (c.make_room.ensures.same ∙ ap (λ v. v.state) c.self.view_is)

pub returns-clause-ready : goal.returns-clause-ready
returns-clause-ready c = ready_seen (invariant_of-self c)
