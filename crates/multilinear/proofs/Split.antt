-- Equality of a point in two parts: the product of theirs, the first part at the high bits. Assumes nothing.
use mathlib.Core.Path.{◌≡◌, sym, ap, ap₂, ◌∙◌}
use Prim.Native.Nat.{ℕ, zero, suc, ◌+◌, ◌*◌, ◌^◌, ◌/◌, ◌%◌, ◌<◌}
use native.Mathlib.Omega.{arith}
use native.Mathlib.Nat.{add_comm as Nat·add-comm}
use mathlib.Core.List.{List, [], ◌∷◌, ◌++◌}
use lib.ListN.{length, length-append}
use lib.Pow.{shr-shr, high, split}
use Rattle.algebra.specs.Ring.{Ops, CommRing}
use Rattle.algebra.proofs.Ring.{one_mul}
use Rattle.multilinear.specs.Equality.{bit, for_bit, eq_at}
use Rattle.multilinear.proofs.Equality.{eq_skip}

bit_shifted : (i j y : ℕ) → bit (i + j) y ≡ bit i (y / 2 ^ j)
bit_shifted i j y = ap (λ n. y / 2 ^ n % 2) (Nat·add-comm i j) ∙ ap (λ n. n % 2) (sym (shr-shr y j i))

module _ {ℓ} {R : Type ℓ} {O : Ops R} (𝓡 : CommRing O) where
  open 𝓡 use {mul_assoc}
  open O use {mul as ◌⊗◌}

  infixl 70 ◌⊗◌
  pub eq_append : (us vs : List R) (y : ℕ) → eq_at O (us ++ vs) y ≡ eq_at O us (y / 2 ^ length vs) ⊗ eq_at O vs y
  unfolding eq_at
  eq_append [] vs y = sym (one_mul 𝓡 _)
  eq_append (u ∷ us) vs y =
      let b = ap (λ n. bit n y) (length-append us vs) ∙ bit_shifted (length us) (length vs) y in
      ap₂ (λ n e. for_bit O n u ⊗ e) b (eq_append us vs y) ∙ sym (mul_assoc _ _ _)

  pub eq_wraps : (zs : List R) (h l : ℕ) → eq_at O zs (h * 2 ^ length zs + l) ≡ eq_at O zs l
  eq_wraps zs zero l = ap (eq_at O zs) (omega arith)
  eq_wraps zs (suc h) l =
      ap (eq_at O zs) (omega arith) ∙ eq_skip O zs (length zs) (h * 2 ^ length zs + l) (omega arith) ∙ eq_wraps zs h l

  pub eq_split : (us vs : List R) (h l : ℕ) → l < 2 ^ length vs → eq_at O (us ++ vs) (h * 2 ^ length vs + l) ≡ eq_at O us h ⊗ eq_at O vs l
  eq_split us vs h l b =
      eq_append us vs (h * 2 ^ length vs + l) ∙ ap₂ (λ n e. eq_at O us n ⊗ e) (high h (length vs) b) (eq_wraps vs h l)

  -- the weight of row y by its high and its low bits; no bound on y, for only its lowest bits are read
  pub weight_split : (us vs : List R) (a : R) (y : ℕ)
      → a ⊗ eq_at O us (y / 2 ^ length vs) ⊗ eq_at O vs (y % 2 ^ length vs) ≡ a ⊗ eq_at O (us ++ vs) y
  weight_split us vs a y =
      mul_assoc _ _ _
      ∙ ap (λ e. a ⊗ (eq_at O us (y / 2 ^ length vs) ⊗ e))
      (sym (eq_wraps vs (y / 2 ^ length vs) (y % 2 ^ length vs)) ∙ ap (eq_at O vs) (split y (length vs)))
      ∙ ap (λ e. a ⊗ e) (sym (eq_append us vs y))
