-- A count of entries with just one bit set is a power of two. Assumes nothing.
use mathlib.Core.Path.{◌≡◌, refl, ap, ◌∙◌}
use mathlib.Core.Bool.{false}
use Prim.Native.Nat.{ℕ, zero, suc, ◌+◌, ◌/◌, ◌%◌, ◌^◌, ◌<◌}
use native.Mathlib.Omega.{arith}
use native.Mathlib.Nat.{pow-suc}
use lib.Count.{ones, ones_in, count_trailing_zeros, under, ones_step}
use Rattle.table.specs.Refusals.{not_power, variables}
use Rattle.table.proofs.Tests.{same}

-- a number with no bit set is 0
ones_none : (k n : ℕ) → n < 2 ^ k → ones n ≡ 0 → n ≡ 0
ones_none zero n h e = omega arith
ones_none (suc k) n h e =
    let s : ones n ≡ n % 2 + ones (n / 2) = ones_step n in
    let r : n / 2 ≡ 0 = ones_none k (n / 2) (omega (arith, pow-suc 2 k)) (omega arith) in
    omega arith

zero_ones : ones 0 ≡ 0
unfolding ones ones_in
zero_ones = refl

one_bit : (k n : ℕ) → n < 2 ^ k → ones n ≡ 1 → n ≡ 2 ^ count_trailing_zeros k n
unfolding count_trailing_zeros
one_bit zero n h e = let q : n ≡ 0 = omega arith in absurd (omega (arith, ap ones q, zero_ones))
one_bit (suc k) n h e = go (n % 2) refl (omega arith) (one_bit k (n / 2) (omega (arith, pow-suc 2 k)))
  where
    go : (d : ℕ) → n % 2 ≡ d → d < 2 → (ones (n / 2) ≡ 1 → n / 2 ≡ 2 ^ count_trailing_zeros k (n / 2)) → n ≡ 2 ^ under d (count_trailing_zeros k (n / 2))
    go zero q b ih = let r = ih (omega (arith, ones_step n)) in omega (arith, pow-suc 2 (count_trailing_zeros k (n / 2)))
    go (suc zero) q b ih = let z : n / 2 ≡ 0 = ones_none k (n / 2) (omega (arith, pow-suc 2 k)) (omega (arith, ones_step n)) in omega arith
    go (suc (suc d)) q b ih = absurd (omega arith)

pub power_of : (n : ℕ) → n < 2 ^ 64 → not_power n ≡ false → n ≡ 2 ^ variables n
power_of n h e = one_bit 64 n h (same (ones n) 1 e)

-- and a power of two has just one bit set, with as many zeros below it
pub power_bit : (k : ℕ) → ones (2 ^ k) ≡ 1
power_bit zero = one_ones
  where
    one_ones : ones (2 ^ 0) ≡ 1
    one_ones = omega (arith, ones_step (2 ^ 0), zero_ones)
power_bit (suc k) =
    let h : 2 ^ suc k / 2 ≡ 2 ^ k = omega (arith, pow-suc 2 k) in
    omega (arith, ones_step (2 ^ suc k), ap ones h, power_bit k, pow-suc 2 k)

pub power_zeros : (m k : ℕ) → k < m → count_trailing_zeros m (2 ^ k) ≡ k
unfolding count_trailing_zeros
power_zeros zero k h = absurd (omega arith)
power_zeros (suc m) zero h = refl
power_zeros (suc m) (suc k) h =
    let e : 2 ^ suc k % 2 ≡ 0 = omega (arith, pow-suc 2 k) in
    let q : 2 ^ suc k / 2 ≡ 2 ^ k = omega (arith, pow-suc 2 k) in
    ap (λ d. under d (count_trailing_zeros m (2 ^ suc k / 2))) e ∙ ap (λ n. suc (count_trailing_zeros m n)) q ∙ ap suc (power_zeros m k (omega arith))
