-- Powers, and `eval_select` by its coordinates, from the last back to coordinate 0. Assumes nothing.
use mathlib.Core.Path.{◌≡◌, sym, ap, ap₂, ◌∙◌}
use Prim.Native.Nat.{ℕ, zero, suc, ◌+◌, ◌^◌}
use native.Mathlib.Nat.{add-zero as Nat·add-zero, add-suc as Nat·add-suc, two-pow-succ}
use mathlib.Core.List.{List, [], ◌∷◌}
use lib.ListN.{length}
use Rattle.algebra.specs.Ring.{Ops, CommRing, minus}
use Rattle.algebra.specs.Sum.{sum_to}
use Rattle.algebra.proofs.Ring.{zero_add, one_mul, mul_swap4}
use Rattle.algebra.proofs.Reading.{reading, ring}
use Rattle.multilinear.specs.Equality.{eq_at}
use Rattle.multilinear.specs.Beside.{power, eval_select}
use Rattle.multilinear.proofs.Equality.{eq_low, eq_high}
use Rattle.multilinear.proofs.Halves.{sum_doubled}

module _ {ℓ} {R : Type ℓ} {O : Ops R} (𝓡 : CommRing O) where
  open 𝓡 use {mul_assoc, mul_one}
  open O use {add as ◌⊕◌, mul as ◌⊗◌, one as 𝟙}

  infixl 65 ◌⊕◌
  infixl 70 ◌⊗◌
  infixl 65 ◌⊝◌
  abbrev ◌⊝◌ : R → R → R
  ◌⊝◌ = minus O

  pub power_add : (x : R) (m n : ℕ) → power O x (m + n) ≡ power O x m ⊗ power O x n
  unfolding power
  power_add x m zero = ap (power O x) (Nat·add-zero m) ∙ sym (mul_one _)
  power_add x m (suc n) = ap (power O x) (Nat·add-suc m n) ∙ ap (λ p. p ⊗ x) (power_add x m n) ∙ mul_assoc _ _ _

  pub power_one : (x : R) → power O x (2 ^ 0) ≡ x
  unfolding power
  power_one x = one_mul 𝓡 x

  pub power_square : (x : R) (k : ℕ) → power O x (2 ^ suc k) ≡ power O x (2 ^ k) ⊗ power O x (2 ^ k)
  power_square x k = ap (power O x) (two-pow-succ k) ∙ power_add x (2 ^ k) (2 ^ k)

  pub select_empty : (x : R) → eval_select O x [] ≡ 𝟙
  unfolding eval_select sum_to eq_at power
  select_empty x = zero_add 𝓡 _ ∙ mul_one 𝟙

  pub select_step : (x z : R) (zs : List R)
      → eval_select O x (z ∷ zs) ≡ (z ⊗ (power O x (2 ^ length zs) ⊝ 𝟙) ⊕ 𝟙) ⊗ eval_select O x zs
  unfolding eval_select
  select_step x z zs =
      sum_doubled 𝓡 (length zs) (λ y. eq_at O (z ∷ zs) y ⊗ power O x y) (λ y. eq_at O zs y ⊗ power O x y) (𝟙 ⊝ z) (z ⊗ power O x m)
      (λ y h. ap (λ e. e ⊗ power O x y) (eq_low O z zs y h) ∙ mul_assoc _ _ _)
      (λ y h. ap₂ ◌⊗◌ (eq_high O z zs y h) (power_add x m y) ∙ mul_swap4 𝓡 _ _ _ _)
      ∙ ap (λ c. c ⊗ eval_select O x zs) (factor z (power O x m))
    where
      m : ℕ
      m = 2 ^ length zs

      factor : (a b : R) → (𝟙 ⊝ a) ⊕ a ⊗ b ≡ a ⊗ (b ⊝ 𝟙) ⊕ 𝟙
      factor a b = reading 𝓡 (a ∷ b ∷ []) λ q. simp (ring, q, q.at 0, q.at 1) (q.close tt)
