-- After `04` nothing is gathered. Assumes nothing.
use Rattle.std.proofs.Common.{◌≡◌, true, false, refl, sym, ap, ◌∙◌}
use Rattle.runs.specs.declared.Phase.{Phase}
use Rattle.runs.specs.declared.Phase.TheVariants as phase
use Rattle.runs.specs.Phases.{is_done}
use Rattle.runs.proofs.Steps.{never}
use Rattle.frames.specs.Inside.{is_gathering}
use Rattle.frames.proofs.Gathering.{settled}
use Rattle.frames.proofs.Run.sums.Goals as goal

done_gathers_none : (ph : Phase) → is_done ph ≡ true → is_gathering ph ≡ false
done_gathers_none phase.Start e = never (sym e)
done_gathers_none phase.Points e = never (sym e)
done_gathers_none phase.Words e = never (sym e)
done_gathers_none phase.Done e = refl

pub returns : goal.returns
returns c =
    let none = c.self.invariant.none (done_gathers_none c.self.inside.reader.phase (ap (λ s. is_done s.state.reader.phase) c.self.view_is ∙ c.requires)) in
    sym (ap (λ s. s.out) (settled c.self.inside.last c.self.invariant.ready none)) ∙ ap (λ s. s.state.out) c.self.view_is
