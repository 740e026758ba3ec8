-- An element operation on words: what a call answers and leaves. Assumes nothing.
use mathlib.Core.Path.{◌≡◌, refl, ap, ◌∙◌}
use mathlib.Core.Bool.{Bool, true, false, cond, ◌||◌}
use mathlib.Core.List.{List, [], ◌∷◌}
use Prim.Native.Nat.{ℕ, zero, suc}
use Rattle.algebra.specs.Words.{unreduced}
use Rattle.field.specs.Field.{p}
use Rattle.table.specs.Refusals.{Outcome, ◌gives◌, verdict, leaves, evaluated}
use Rattle.host_answers.specs.Host.{answered, shown}
use Rattle.host.specs.declared.elements.Operation.{Operation}
use Rattle.host.specs.Elements.{operated, element_answer, element_out}
use Rattle.host.specs.Inner.{operand_tests}

either : (a b : Bool) → verdict (a gives 5 ∷ b gives 5 ∷ []) ≡ cond (a || b) 5 0
unfolding verdict
either true b = refl
either false b = refl

-- what is left of what is given
given_on : (n : ℕ) (new was : List ℕ) → leaves n (leaves n new []) was ≡ leaves n new was
given_on zero new was = refl
given_on (suc n) new was = refl

module _ (x y : List ℕ) where
  pub by_tests : verdict (operand_tests x y) ≡ element_answer x y
  unfolding element_answer
  by_tests = either (unreduced p x) (unreduced p y)

  pub applied : (o : Operation) (was : List ℕ) {r : Outcome} {n : ℕ} {w : List ℕ}
      → r ≡ evaluated (element_answer x y) (operated o (record { c = x }) (record { c = y })) → answered n w ≡ shown r was
      → (n ≡ element_answer x y) × (w ≡ element_out o x y was)
  unfolding answered shown element_out
  applied o was e h =
      let q = h ∙ ap (λ r. shown r was) e in
      (ap (λ (r : Outcome). r.number) q, ap (λ (r : Outcome). r.words) q ∙ given_on (element_answer x y) _ was)
