-- Where nothing may come any more (specs/Phases.antt). Assumes nothing.
use mathlib.Core.Path.{◌≡◌, refl}
use mathlib.Core.Bool.{true, false}
use mathlib.Core.List.{[], ◌∷◌}
use Rattle.std.specs.Prelude.{Option, Some, None}
use Rattle.multilinear.specs.declared.Side.TheVariants.{Prefix}
use Rattle.multilinear.specs.declared.Weight.TheVariants.{Plain}
use Rattle.frame.specs.declared.Frame.{Frame}
use Rattle.frame.specs.declared.Frame.TheVariants.{Open, Close}
use Rattle.runs.specs.declared.Phase.{Phase}
use Rattle.runs.specs.declared.Phase.TheVariants as phase
use Rattle.runs.specs.Phases.{in_place, is_done, Over}
use Rattle.runs.proofs.Steps.{never}

nothing : (ph : Phase) → is_done ph ≡ true → (x : Option Frame) → in_place ph x ≡ false
nothing phase.Done e (Some f) = refl
nothing phase.Done e None = refl
nothing phase.Start e x = cc
nothing phase.Points e x = cc
nothing phase.Words e x = cc

something : (ph : Phase) → is_done ph ≡ false → (x : Option Frame) × (in_place ph x ≡ true)
something phase.Start e =
    (Some (Open (record { side = Prefix; weight = Plain; n = 0; k = 0; scale = record { c = 0 ∷ 0 ∷ 0 ∷ 0 ∷ [] } })), refl)
something phase.Points e = (Some Close, refl)
something phase.Words e = (Some Close, refl)
something phase.Done e = never e

pub over : Over
over = record { nothing = nothing; something = something }
