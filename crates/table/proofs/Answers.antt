-- The paper's numbers determine the refusals, and answers by their numbers. Assumes nothing.
use mathlib.Core.Path.{◌≡◌, refl, sym, ap, ◌∙◌}
use Prim.Native.Nat.{ℕ, zero, suc}
use native.Mathlib.Omega.{arith}
use mathlib.Core.List.{List, [], ◌∷◌}
use lib.ListN.{get_or}
use Rattle.std.specs.Prelude.{Result, Ok, Err}
use Rattle.field.specs.declared.Element.{Element}
use Rattle.table.specs.Refusals.{number, answer, Outcome, outcome, leaves}
use Rattle.table.specs.declared.Refusal.{Refusal}
use Rattle.table.specs.declared.Refusal.TheVariants.{Split, NotPower, TooMany, Lengths, Unreduced, Constant, NoVertex, TooLong, Missing, Closed, Broken, NotFrame, Coordinates, NoPlace, Columns}

-- the refusal of a number
refusals : List Refusal
refusals =
    Split
    ∷ Split
    ∷ NotPower
    ∷ TooMany
    ∷ Lengths
    ∷ Unreduced
    ∷ Constant
    ∷ NoVertex
    ∷ TooLong
    ∷ Missing
    ∷ Closed
    ∷ Broken
    ∷ NotFrame
    ∷ Coordinates
    ∷ NoPlace
    ∷ Columns
    ∷ []

found : (r : Refusal) → get_or refusals (number r) Split ≡ r
unfolding refusals
found Split = refl
found NotPower = refl
found TooMany = refl
found Lengths = refl
found Unreduced = refl
found Constant = refl
found NoVertex = refl
found TooLong = refl
found Missing = refl
found Closed = refl
found Broken = refl
found NotFrame = refl
found Coordinates = refl
found NoPlace = refl
found Columns = refl

pub number_one : (r s : Refusal) → number r ≡ number s → r ≡ s
number_one r s e = sym (found r) ∙ ap (λ n. get_or refusals n Split) e ∙ found s

-- no refusal has the number 0
pub number_some : (r : Refusal) → 0 ≡ number r → ⊥
number_some Split e = omega arith
number_some NotPower e = omega arith
number_some TooMany e = omega arith
number_some Lengths e = omega arith
number_some Unreduced e = omega arith
number_some Constant e = omega arith
number_some NoVertex e = omega arith
number_some TooLong e = omega arith
number_some Missing e = omega arith
number_some Closed e = omega arith
number_some Broken e = omega arith
number_some NotFrame e = omega arith
number_some Coordinates e = omega arith
number_some NoPlace e = omega arith
number_some Columns e = omega arith

-- answers of one number are one answer
pub answer_one : (a b : Result Unit Refusal) → answer a ≡ answer b → a ≡ b
answer_one (Ok _) (Ok _) e = refl
answer_one (Ok _) (Err s) e = absurd (number_some s e)
answer_one (Err r) (Ok _) e = absurd (number_some r (sym e))
answer_one (Err r) (Err s) e = ap Err (number_one r s e)

-- and so are answers of one number and the same words
pub outcome_one : (a b : Result Element Refusal) → outcome a ≡ outcome b → a ≡ b
outcome_one (Ok x) (Ok y) e = ap (λ (o : Outcome). let z : Element = record { c = o.words } in Ok z) e
outcome_one (Ok x) (Err s) e = absurd (number_some s (ap (λ (o : Outcome). o.number) e))
outcome_one (Err r) (Ok y) e = absurd (number_some r (sym (ap (λ (o : Outcome). o.number) e)))
outcome_one (Err r) (Err s) e = ap Err (number_one r s (ap (λ (o : Outcome). o.number) e))

-- what refused calls leave
pub kept {ℓ} : {A : Type ℓ} (new old : A) (r : Refusal) → leaves (number r) new old ≡ old
kept new old r = go (number r) (number_some r)
  where
    go : (n : ℕ) → (0 ≡ n → ⊥) → leaves n new old ≡ old
    go zero h = absurd (h refl)
    go (suc n) h = refl

-- the number of an answer that code goes by the cases of
pub answer_as : {A : Type 0} {a b : Result A Refusal} {n : ℕ} → a ≡ b → answer a ≡ n → answer b ≡ n
answer_as e h = sym (ap answer e) ∙ h
