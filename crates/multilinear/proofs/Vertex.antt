-- At the coordinates of a vertex, equality is 1 at that row and 0 elsewhere. Assumes nothing.
use mathlib.Core.Path.{◌≡◌, refl, sym, ap, ap₂, ◌∙◌}
use mathlib.Core.Logic.{◌≢◌}
use mathlib.Core.Bool.{Bool, true, false, cond}
use Prim.Native.Nat.{ℕ, zero, suc, ◌+◌, ◌*◌, ◌^◌, ◌%◌, ◌<◌}
use native.Mathlib.Omega.{arith}
use native.Mathlib.Nat.{mod-eq_of_lt}
use mathlib.Core.List.{[]}
use lib.ListN.{length}
use lib.Pow.{mod-pow-add}
use lib.Dec.{eqb}
use borrow.Author.Tests.{eqb-true, eqb-false}
use Rattle.algebra.specs.Ring.{Ops, CommRing}
use Rattle.algebra.proofs.Ring.{mul_zero, zero_mul}
use Rattle.algebra.proofs.Reading.{reading, ring}
use Rattle.multilinear.specs.Equality.{bit, for_bit, eq_at, as_coordinate, vertex_point}

-- the k + 1 lowest bits: bit k and those below it
pub low_bits : (k y : ℕ) → y % 2 ^ suc k ≡ bit k y * 2 ^ k + y % 2 ^ k
low_bits k y = ap (λ n. y % 2 ^ n) (omega arith) ∙ mod-pow-add y 1 k

module _ {ℓ} {R : Type ℓ} {O : Ops R} (𝓡 : CommRing O) where
  open 𝓡 use {add_neg, mul_one}
  open O use {mul as ◌⊗◌, zero as 𝟘, one as 𝟙}

  infixl 70 ◌⊗◌
  same_bit : (b : ℕ) → for_bit O b (as_coordinate O b) ≡ 𝟙
  same_bit zero = reading 𝓡 [] λ q. simp (ring, q) (q.close tt)
  same_bit (suc b) = refl

  other_bit : (b c : ℕ) → b < 2 → c < 2 → b ≢ c → for_bit O b (as_coordinate O c) ≡ 𝟘
  other_bit zero zero hb hc d = absurd (d refl)
  other_bit zero (suc c) hb hc d = add_neg 𝟙
  other_bit (suc b) zero hb hc d = refl
  other_bit (suc b) (suc c) hb hc d = absurd (d (omega arith))

  pub vertex_length : (k v : ℕ) → length (vertex_point O k v) ≡ k
  unfolding vertex_point
  vertex_length zero v = refl
  vertex_length (suc k) v = ap suc (vertex_length k v)

  vertex_step : (k v y : ℕ)
      → eq_at O (vertex_point O (suc k) v) y ≡ for_bit O (bit k y) (as_coordinate O (bit k v)) ⊗ eq_at O (vertex_point O k v) y
  unfolding vertex_point eq_at
  vertex_step k v y = ap (λ n. for_bit O (bit n y) (as_coordinate O (bit k v)) ⊗ eq_at O (vertex_point O k v) y) (vertex_length k v)

  vertex_own : (k v : ℕ) → eq_at O (vertex_point O k v) v ≡ 𝟙
  unfolding vertex_point eq_at
  vertex_own zero v = refl
  vertex_own (suc k) v = vertex_step k v v ∙ ap₂ ◌⊗◌ (same_bit (bit k v)) (vertex_own k v) ∙ mul_one 𝟙

  -- either bit k differs, and its factor is 0, or the bits below it do
  vertex_other : (k v y : ℕ) → y % 2 ^ k ≢ v % 2 ^ k → eq_at O (vertex_point O k v) y ≡ 𝟘
  vertex_other zero v y d = absurd (d (omega arith))
  vertex_other (suc k) v y d = vertex_step k v y ∙ go (eqb (bit k y) (bit k v)) refl (vertex_other k v y)
    where
      f : R
      f = for_bit O (bit k y) (as_coordinate O (bit k v))

      e : R
      e = eq_at O (vertex_point O k v) y

      go : (t : Bool) → eqb (bit k y) (bit k v) ≡ t → (y % 2 ^ k ≢ v % 2 ^ k → e ≡ 𝟘) → f ⊗ e ≡ 𝟘
      go true q ih =
          let b : bit k y ≡ bit k v = eqb-true _ _ q in
          let d' : y % 2 ^ k ≢ v % 2 ^ k = λ r. d (low_bits k y ∙ ap₂ (λ i j. i * 2 ^ k + j) b r ∙ sym (low_bits k v)) in
          ap (λ x. f ⊗ x) (ih d') ∙ mul_zero 𝓡 f
      go false q ih =
          ap (λ x. x ⊗ e) (other_bit (bit k y) (bit k v) (omega arith) (omega arith) (eqb-false _ _ q)) ∙ zero_mul 𝓡 e

  pub vertex : (k v y : ℕ) → v < 2 ^ k → y < 2 ^ k → eq_at O (vertex_point O k v) y ≡ cond (eqb y v) 𝟙 𝟘
  vertex k v y hv hy = go (eqb y v) refl
    where
      go : (t : Bool) → eqb y v ≡ t → eq_at O (vertex_point O k v) y ≡ cond t 𝟙 𝟘
      go true e = ap (eq_at O (vertex_point O k v)) (eqb-true y v e) ∙ vertex_own k v
      go false e = vertex_other k v y (λ r. eqb-false y v e (sym (mod-eq_of_lt hy) ∙ r ∙ mod-eq_of_lt hv))
