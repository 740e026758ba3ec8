-- By the frame: at `01` and `02` nothing is gathered. Assumes nothing.
use Rattle.std.proofs.Common.{Some, refl, sym, ap, ◌∙◌}
use Rattle.frame.specs.declared.Frame.TheVariants.{Open, Coordinate}
use Rattle.runs.proofs.Steps.{accepted}
use Rattle.frames.specs.After.{after_accepted}
use Rattle.frames.specs.Inside.{is_gathering}
use Rattle.frames.proofs.Keeping.{hands_coordinate}
use Rattle.frames.proofs.Gathering.{ready_seen, other_gathers, other_same}
use Rattle.frames.proofs.Turns.{accepted_in}
use Rattle.frames.proofs.Run.take.Goals as goal

pub invariant_of-self : goal.invariant_of-self
invariant_of-self c =
    let o = c.in-Open.opening in
    let a = accepted_in (ap (λ v. v.state) c.self.view_is) (Open o) (rw c.in-Open.is at c.requires) in
    let none = c.self.invariant.none (ap is_gathering (accepted _ (Some (Open o)) a).0) in
    rw (c.open-self-inside.ensures, c.clear.ensures) (other_gathers (Open o) c.self.invariant none a refl)

pub returns-in-Open-clause-state : goal.returns-in-Open-clause-state
returns-in-Open-clause-state c =
    let o = c.in-Open.opening in
    let a = accepted_in (ap (λ v. v.state) c.self.view_is) (Open o) (rw c.in-Open.is at c.requires) in
    let none = c.self.invariant.none (ap is_gathering (accepted _ (Some (Open o)) a).0) in
    rw (c.open-self-inside.ensures, c.clear.ensures) (other_same (Open o) c.self.invariant none a refl)
    ∙ ap (λ v. after_accepted (Open o) v.state) c.self.view_is ∙ ap (λ f. after_accepted f c.args.self.now.state) (sym c.in-Open.is)

pub returns-in-Open-clause-ready : goal.returns-in-Open-clause-ready
returns-in-Open-clause-ready c = ready_seen (invariant_of-self c)

pub note-self-inside-requires : goal.note-self-inside-requires
note-self-inside-requires c =
    let i = c.in-Coordinate.index in
    let e = c.in-Coordinate.coordinate in
    let a = accepted_in (ap (λ v. v.state) c.self-in-Coordinate.view_is) (Coordinate i e) (rw c.in-Coordinate.is at c.requires) in
    hands_coordinate c.self-in-Coordinate.invariant.ready i e a

pub invariant_of-self-in-Coordinate : goal.invariant_of-self-in-Coordinate
invariant_of-self-in-Coordinate c =
    let i = c.in-Coordinate.index in
    let e = c.in-Coordinate.coordinate in
    let a = accepted_in (ap (λ v. v.state) c.self-in-Coordinate.view_is) (Coordinate i e) (rw c.in-Coordinate.is at c.requires) in
    let none = c.self-in-Coordinate.invariant.none (ap is_gathering (accepted _ (Some (Coordinate i e)) a).0) in
    rw c.note-self-inside.ensures (other_gathers (Coordinate i e) c.self-in-Coordinate.invariant none a refl)

pub returns-in-Coordinate-clause-state : goal.returns-in-Coordinate-clause-state
returns-in-Coordinate-clause-state c =
    let i = c.in-Coordinate.index in
    let e = c.in-Coordinate.coordinate in
    let a = accepted_in (ap (λ v. v.state) c.self-in-Coordinate.view_is) (Coordinate i e) (rw c.in-Coordinate.is at c.requires) in
    let none = c.self-in-Coordinate.invariant.none (ap is_gathering (accepted _ (Some (Coordinate i e)) a).0) in
    rw c.note-self-inside.ensures (other_same (Coordinate i e) c.self-in-Coordinate.invariant none a refl)
    ∙ ap (λ v. after_accepted (Coordinate i e) v.state) c.self-in-Coordinate.view_is
    ∙ ap (λ f. after_accepted f c.args.self.now.state) (sym c.in-Coordinate.is)

pub returns-in-Coordinate-clause-ready : goal.returns-in-Coordinate-clause-ready
returns-in-Coordinate-clause-ready c = ready_seen (invariant_of-self-in-Coordinate c)
