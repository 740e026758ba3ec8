-- Weights that are the shifted ones and eq[N-1] once more at one row: the next ones, at the last, and the cyclic ones, at the first. What
-- that adds to a sum, over any commutative ring. Assumes nothing.
use mathlib.Core.Path.{◌≡◌, refl, sym, ap, ◌∙◌}
use mathlib.Core.Logic.{◌≢◌}
use Prim.Native.Nat.{ℕ, zero, suc, ◌^◌, ◌<◌}
use mathlib.Core.List.{List}
use lib.ListN.{length}
use lib.Pow.{pow_pos, ones_lt}
use borrow.Author.Tests.{eq-eqb, ne_eqb}
use Rattle.algebra.specs.Ring.{Ops, CommRing}
use Rattle.algebra.specs.Sum.{sum_to}
use Rattle.algebra.proofs.Ring.{zero_add, add_mul}
use Rattle.algebra.proofs.Sums.{sum_gain}
use Rattle.multilinear.specs.Equality.{eq_at}
use Rattle.multilinear.specs.Successors.{last_row, shifted_at, next_at, cyclic_at}
use Rattle.multilinear.specs.Inner.{own_value_at}

pub record Beside {ℓ} {R : Type ℓ} (O : Ops R) (zs : List R) (weight : ℕ → R) (own : ℕ) : Type ℓ where
  pub there : own < 2 ^ length zs
  pub other : (y : ℕ) → y ≢ own → weight y ≡ shifted_at O zs y
  pub gains : weight own ≡ O.add (shifted_at O zs own) (eq_at O zs (last_row O zs))

module _ {ℓ} {R : Type ℓ} {O : Ops R} (𝓡 : CommRing O) where
  open 𝓡 use {mul_add}
  open O use {add as ◌⊕◌, mul as ◌⊗◌}

  infixl 65 ◌⊕◌
  infixl 70 ◌⊗◌
  pub next_beside : (zs : List R) → Beside O zs (next_at O zs) (last_row O zs)
  next_beside zs =
      record {
        there = ones_lt (length zs);
        other = λ y d. rw (ne_eqb y (last_row O zs) d);
        gains = rw (eq-eqb (last_row O zs) (last_row O zs) refl);
      }

  other_row : (zs : List R) (y : ℕ) → y ≢ 0 → cyclic_at O zs y ≡ shifted_at O zs y
  other_row zs zero d = absurd (d refl)
  other_row zs (suc y) d = refl

  pub cyclic_beside : (zs : List R) → Beside O zs (cyclic_at O zs) 0
  cyclic_beside zs = record { there = pow_pos (length zs); other = other_row zs; gains = sym (zero_add 𝓡 _) }

  module _ {zs : List R} {weight : ℕ → R} {own : ℕ} (b : Beside O zs weight own) where
    -- of a g that goes over sums
    pub own_sum : (g : ℕ → R → R) → ((y : ℕ) (u v : R) → g y (u ⊕ v) ≡ g y u ⊕ g y v)
        → sum_to O (2 ^ length zs) (λ y. g y (weight y))
        ≡ sum_to O (2 ^ length zs) (λ y. g y (shifted_at O zs y)) ⊕ g own (eq_at O zs (last_row O zs))
    own_sum g over =
        sum_gain 𝓡 (2 ^ length zs) (λ y. g y (shifted_at O zs y)) (λ y. g y (weight y)) own _ b.there
        (λ y h d. ap (g y) (b.other y d)) (ap (g own) b.gains ∙ over _ _ _)

    pub own_gains : (c : R) (f : ℕ → R)
        → sum_to O (2 ^ length zs) (λ y. c ⊗ weight y ⊗ f y)
        ≡ sum_to O (2 ^ length zs) (λ y. c ⊗ shifted_at O zs y ⊗ f y) ⊕ c ⊗ eq_at O zs (last_row O zs) ⊗ f own
    own_gains c f = own_sum (λ y x. c ⊗ x ⊗ f y) (λ y u v. ap (λ x. x ⊗ f y) (mul_add c u v) ∙ add_mul 𝓡 _ _ _)

    pub own_value : (f : ℕ → R) → sum_to O (2 ^ length zs) (λ y. weight y ⊗ f y) ≡ own_value_at O own zs f
    unfolding own_value_at
    own_value f = own_sum (λ y x. x ⊗ f y) (λ y u v. add_mul 𝓡 u v (f y))
