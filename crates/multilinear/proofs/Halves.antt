-- A sum over 2^(k+1) rows by its halves, over any commutative ring. Assumes nothing.
use mathlib.Core.Path.{◌≡◌, sym, ap, ap₂, ◌∙◌}
use Prim.Native.Nat.{ℕ, suc, ◌+◌, ◌^◌, ◌<◌}
use native.Mathlib.Nat.{two-pow-succ}
use Rattle.algebra.specs.Ring.{Ops, CommRing}
use Rattle.algebra.specs.Sum.{sum_to}
use Rattle.algebra.proofs.Ring.{add_mul}
use Rattle.algebra.proofs.Sums.{sum_ext, sum_scale, sum_split}

module _ {ℓ} {R : Type ℓ} {O : Ops R} (𝓡 : CommRing O) where
  open O use {add as ◌⊕◌, mul as ◌⊗◌}

  infixl 65 ◌⊕◌
  infixl 70 ◌⊗◌
  pub sum_halves : (k : ℕ) (f : ℕ → R) → sum_to O (2 ^ suc k) f ≡ sum_to O (2 ^ k) f ⊕ sum_to O (2 ^ k) (λ y. f (2 ^ k + y))
  sum_halves k f = ap (λ n. sum_to O n f) (two-pow-succ k) ∙ sum_split 𝓡 (2 ^ k) (2 ^ k) f

  pub sum_scaled : (n : ℕ) (f g : ℕ → R) (a : R) → ((y : ℕ) → y < n → f y ≡ a ⊗ g y) → sum_to O n f ≡ a ⊗ sum_to O n g
  sum_scaled n f g a e = sum_ext 𝓡 n f (λ y. a ⊗ g y) e ∙ sum_scale 𝓡 n a g

  -- one table, times a in the lower half and times b in the upper
  pub sum_doubled : (k : ℕ) (f g : ℕ → R) (a b : R) → ((y : ℕ) → y < 2 ^ k → f y ≡ a ⊗ g y)
      → ((y : ℕ) → y < 2 ^ k → f (2 ^ k + y) ≡ b ⊗ g y) → sum_to O (2 ^ suc k) f ≡ (a ⊕ b) ⊗ sum_to O (2 ^ k) g
  sum_doubled k f g a b low high =
      sum_halves k f ∙ ap₂ ◌⊕◌ (sum_scaled (2 ^ k) f g a low) (sum_scaled (2 ^ k) (λ y. f (2 ^ k + y)) g b high) ∙ sym (add_mul 𝓡 a b _)
