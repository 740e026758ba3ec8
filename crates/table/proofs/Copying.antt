-- What is left of zeros. Assumes nothing.
use mathlib.Core.Path.{◌≡◌, ap, ◌∙◌}
use Prim.Native.Nat.{ℕ, zero, suc, ◌-◌}
use native.Mathlib.Omega.{arith}
use lib.ListN.{drop, replicate}

-- the first m of n zeros dropped
pub drop_zeros : (m n : ℕ) → drop {A = ℕ} m (replicate n 0) ≡ replicate (n - m) 0
drop_zeros zero n = let q : n ≡ n - 0 = omega arith in ap (λ k. replicate k 0) q
drop_zeros (suc m) zero = let q : 0 ≡ 0 - suc m = omega arith in ap (λ k. replicate k 0) q
drop_zeros (suc m) (suc n) = let q : n - m ≡ suc n - suc m = omega arith in drop_zeros m n ∙ ap (λ k. replicate k 0) q
