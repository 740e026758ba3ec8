-- Equality's halves, over any commutative ring: the first coordinate goes with the highest bit. Assumes nothing.
use mathlib.Core.Path.{◌≡◌, refl, sym, ap, ap₂, ◌∙◌}
use Prim.Native.Nat.{ℕ, suc, ◌+◌, ◌-◌, ◌*◌, ◌^◌, ◌/◌, ◌%◌, ◌<◌, ◌≤◌}
use native.Mathlib.Omega.{arith}
use native.Mathlib.Nat.{div-eq_of_lt, mul-add-div, add-div_left, two-pow-succ}
use mathlib.Core.List.{List, [], ◌∷◌}
use lib.ListN.{length}
use lib.Pow.{pow_pos, pow-add}
use Rattle.algebra.specs.Ring.{Ops, CommRing, minus}
use Rattle.algebra.proofs.Reading.{reading, ring}
use Rattle.multilinear.specs.Equality.{bit, for_bit, eq_at}

-- a bit below m does not see 2^m
bit_skip : (j m y : ℕ) → j < m → bit j (2 ^ m + y) ≡ bit j y
bit_skip j m y h =
    let d : ℕ = m - suc j in
    let e : 2 ^ m ≡ 2 ^ j * 2 ^ suc d = ap (λ x. 2 ^ x) (omega arith) ∙ pow-add 2 j (suc d) in
    ap (λ x. (x + y) / 2 ^ j % 2) e ∙ ap (λ x. x % 2) (mul-add-div (pow_pos j) (2 ^ suc d) y) ∙ omega (arith, two-pow-succ d)

bit_low : (m y : ℕ) → y < 2 ^ m → bit m y ≡ 0
bit_low m y h = rw (div-eq_of_lt h)

bit_high : (m y : ℕ) → y < 2 ^ m → bit m (2 ^ m + y) ≡ 1
bit_high m y h = rw (add-div_left y (pow_pos m), div-eq_of_lt h)

module _ {ℓ} {R : Type ℓ} (O : Ops R) where
  pub eq_low : (z : R) (zs : List R) (y : ℕ) → y < 2 ^ length zs → eq_at O (z ∷ zs) y ≡ O.mul (minus O O.one z) (eq_at O zs y)
  unfolding eq_at
  eq_low z zs y h = ap (λ b. O.mul (for_bit O b z) (eq_at O zs y)) (bit_low (length zs) y h)

  -- rows above the table see its rows again
  pub eq_skip : (zs : List R) (m y : ℕ) → length zs ≤ m → eq_at O zs (2 ^ m + y) ≡ eq_at O zs y
  unfolding eq_at
  eq_skip [] m y h = refl
  eq_skip (z ∷ zs) m y h = ap₂ O.mul (ap (λ b. for_bit O b z) (bit_skip (length zs) m y h)) (eq_skip zs m y (omega arith))

  pub eq_high : (z : R) (zs : List R) (y : ℕ) → y < 2 ^ length zs → eq_at O (z ∷ zs) (2 ^ length zs + y) ≡ O.mul z (eq_at O zs y)
  unfolding eq_at
  eq_high z zs y h = ap₂ (λ b e. O.mul (for_bit O b z) e) (bit_high (length zs) y h) (eq_skip zs (length zs) y (omega arith))

  -- the same, for a length that is known by an equation
  module _ (m : ℕ) (z : R) (zs : List R) (e : length zs ≡ m) (y : ℕ) (h : y < 2 ^ m) where
    pub low_half : eq_at O (z ∷ zs) y ≡ O.mul (minus O O.one z) (eq_at O zs y)
    low_half = eq_low z zs y (rw e h)

    pub high_half : eq_at O (z ∷ zs) (2 ^ m + y) ≡ O.mul z (eq_at O zs y)
    high_half = rw (← e) (eq_high z zs y (rw e h))

-- a scaled table is doubled by a coordinate: the low half loses its product with it, and the high half is that product
module _ {ℓ} {R : Type ℓ} {O : Ops R} (𝓡 : CommRing O) (s z : R) (zs : List R) (y : ℕ) (h : y < 2 ^ length zs) where
  pub doubled_low : minus O (O.mul s (eq_at O zs y)) (O.mul (O.mul s (eq_at O zs y)) z) ≡ O.mul s (eq_at O (z ∷ zs) y)
  doubled_low = law (eq_at O zs y) ∙ ap (λ e. O.mul s e) (sym (eq_low O z zs y h))
    where
      law : (e : R) → minus O (O.mul s e) (O.mul (O.mul s e) z) ≡ O.mul s (O.mul (minus O O.one z) e)
      law e = reading 𝓡 (s ∷ z ∷ e ∷ []) λ q. simp (ring, q, q.at 0, q.at 1, q.at 2) (q.close tt)

  pub doubled_high : O.mul (O.mul s (eq_at O zs y)) z ≡ O.mul s (eq_at O (z ∷ zs) (2 ^ length zs + y))
  doubled_high = 𝓡.mul_assoc s _ z ∙ ap (λ e. O.mul s e) (𝓡.mul_comm _ z ∙ sym (eq_high O z zs y h))
