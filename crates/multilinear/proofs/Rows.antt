-- Values of a table that is 0 outside one row, and of a table summed block by block against scale·eq of its last coordinates, over any
-- commutative ring. Assumes nothing.
use mathlib.Core.Path.{◌≡◌, ap, ◌∙◌}
use Prim.Native.Nat.{ℕ, ◌+◌, ◌*◌, ◌^◌, ◌≤◌, ◌<◌}
use native.Mathlib.Omega.{arith}
use mathlib.Core.List.{List, ◌++◌}
use lib.ListN.{length}
use Rattle.algebra.specs.Ring.{Ops, CommRing}
use Rattle.algebra.specs.Sum.{sum_to}
use Rattle.algebra.proofs.Ring.{zero_add, mul_zero}
use Rattle.algebra.proofs.Sums.{sum_middle}
use Rattle.multilinear.specs.Equality.{eq_at}
use Rattle.multilinear.specs.Values.{value_at}
use Rattle.multilinear.proofs.Halves.{sum_scaled}
use Rattle.multilinear.proofs.Values.{value_ext, value_scale, value_split}

module _ {ℓ} {R : Type ℓ} {O : Ops R} (𝓡 : CommRing O) where
  open 𝓡 use {mul_assoc}
  open O use {mul as ◌⊗◌, zero as 𝟘}

  infixl 70 ◌⊗◌
  pub value_row : (zs : List R) (f : ℕ → R) (row : ℕ) → row < 2 ^ length zs → ((h : ℕ) → h < row → f h ≡ 𝟘)
      → ((h : ℕ) → row + 1 ≤ h → f h ≡ 𝟘) → value_at O zs f ≡ eq_at O zs row ⊗ f row
  unfolding value_at sum_to
  value_row zs f row b before after =
      sum_middle 𝓡 (2 ^ length zs) row 1 (λ y. eq_at O zs y ⊗ f y) (omega arith)
      (λ y h. ap (O.mul (eq_at O zs y)) (before y h) ∙ mul_zero 𝓡 _) (λ y h. ap (O.mul (eq_at O zs y)) (after y h) ∙ mul_zero 𝓡 _)
      ∙ zero_add 𝓡 _ ∙ ap (λ n. eq_at O zs n ⊗ f n) (omega arith)

  -- w is the table of scale·eq of vs
  pub value_blocks : (us vs : List R) (scale : R) (w f : ℕ → R) → ((l : ℕ) → l < 2 ^ length vs → w l ≡ scale ⊗ eq_at O vs l)
      → value_at O us (λ h. sum_to O (2 ^ length vs) (λ l. w l ⊗ f (h * 2 ^ length vs + l))) ≡ scale ⊗ value_at O (us ++ vs) f
  unfolding value_at
  value_blocks us vs scale w f e =
      value_ext 𝓡 us _ _
      (λ h c. sum_scaled 𝓡 (2 ^ length vs) _ _ scale (λ l b. ap (λ x. x ⊗ f (h * 2 ^ length vs + l)) (e l b) ∙ mul_assoc _ _ _))
      ∙ value_scale 𝓡 us scale _ ∙ ap (O.mul scale) (value_split 𝓡 us vs f)
