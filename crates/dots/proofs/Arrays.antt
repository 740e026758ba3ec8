-- What holds at each place of an array. Assumes nothing.
use Rattle.std.proofs.Common.{◌<◌, ℕ, zero, suc, arith}

-- what holds at each of seven places
pub seven : (P : ℕ → Type 0) → P 0 → P 1 → P 2 → P 3 → P 4 → P 5 → P 6 → (k : ℕ) → k < 7 → P k
seven P p0 p1 p2 p3 p4 p5 p6 zero l = p0
seven P p0 p1 p2 p3 p4 p5 p6 (suc zero) l = p1
seven P p0 p1 p2 p3 p4 p5 p6 (suc (suc zero)) l = p2
seven P p0 p1 p2 p3 p4 p5 p6 (suc (suc (suc zero))) l = p3
seven P p0 p1 p2 p3 p4 p5 p6 (suc (suc (suc (suc zero)))) l = p4
seven P p0 p1 p2 p3 p4 p5 p6 (suc (suc (suc (suc (suc zero))))) l = p5
seven P p0 p1 p2 p3 p4 p5 p6 (suc (suc (suc (suc (suc (suc zero)))))) l = p6
seven P p0 p1 p2 p3 p4 p5 p6 (suc (suc (suc (suc (suc (suc (suc k))))))) l = absurd (omega arith)
