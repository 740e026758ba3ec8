-- Products of points (document 01, "Beside these": `eval_eq`, `eval_select`, `eval_eq_batch`), over the operations of any ring. Assumes
-- nothing.
use Rattle.std.specs.Prelude.{ℕ, zero, suc, ◌^◌, List, [], ◌∷◌, length}
use Rattle.algebra.specs.Ring.{Ops, minus}
use Rattle.algebra.specs.Sum.{sum_to}
use Rattle.multilinear.specs.Equality.{eq_at, agreement}

module _ {ℓ} {R : Type ℓ} (O : Ops R) where
  open O use {add as ◌⊕◌, mul as ◌⊗◌, one as 𝟙}

  infixl 65 ◌⊕◌
  infixl 70 ◌⊗◌
  infixl 65 ◌⊝◌
  abbrev ◌⊝◌ : R → R → R
  ◌⊝◌ = minus O

  -- `eval_eq`: the product of 2pq - p - q + 1
  unfoldable pub eval_eq : List R → List R → R
  eval_eq [] qs = 𝟙
  eval_eq (p ∷ ps) [] = 𝟙
  eval_eq (p ∷ ps) (q ∷ qs) = agreement O p q ⊗ eval_eq ps qs

  -- xⁿ, with 0⁰ = 1
  unfoldable pub power : R → ℕ → R
  power x zero = 𝟙
  power x (suc n) = power x n ⊗ x

  -- `eval_select`: the sum of eq[y]·xʸ
  unfoldable pub eval_select : R → List R → R
  eval_select x zs = sum_to O (2 ^ length zs) (λ y. eq_at O zs y ⊗ power x y)

  -- `eval_eq_batch` at row y: the sum over the w points of scalar j times eq of point j
  unfoldable pub eval_batch : ℕ → (ℕ → R) → (ℕ → List R) → ℕ → R
  eval_batch w scalar point y = sum_to O w (λ j. scalar j ⊗ eq_at O (point j) y)

  -- the line through a at 0 and b at 1, at r
  abbrev pub line : R → R → R → R
  line a b r = a ⊕ (b ⊝ a) ⊗ r
