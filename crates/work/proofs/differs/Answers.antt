-- `work::differs` meets its contract: a length fits a u64, so no slice has 2⁶² elements. Assumes nothing.
use Rattle.std.proofs.Common.{◌≡◌, ◌≢◌, sym, ap, ◌∙◌, ℕ, ◌+◌, ◌*◌, ◌%◌, ◌^◌, ◌≤◌, not, arith}
use native.Mathlib.Nat.{one-mul}
use borrow.Author.Tests.{ne_eqb}
use lib.Pow.{shl_exact, pow_mono}
use Rattle.table.specs.Table.{entries}
use Rattle.work.specs.Work.{first, others}
use Rattle.work.proofs.differs.Goals as goal

-- a shift of 1 by fewer than 62 bits is the power
shifted : (n : ℕ) → n ≤ 61 → 1 * 2 ^ n % 2 ^ 64 ≡ 2 ^ n
shifted n h = shl_exact {a = 1} 1 n 64 (omega arith) (omega arith) ∙ one-mul _

pub returns-then-others-gt61 : goal.returns-then-others-gt61
returns-then-others-gt61 c =
    let few : 2 ^ 62 ≤ 2 ^ others c.args.k = pow_mono c.if-others-gt61.true in
    let d : entries c.args.work.now ≢ 2 ^ first c.args.k + 2 ^ others c.args.k = λ e. omega arith in
    sym (ap not (ne_eqb _ _ d))

pub overflow_add-result : goal.overflow_add-result
overflow_add-result c =
    let k = c.args.k in
    let a : 2 ^ first k ≤ 2 ^ 61 = pow_mono {j = 61} (omega arith) in
    let b : 2 ^ others k ≤ 2 ^ 61 = pow_mono {j = 61} (omega arith) in
    omega (arith, shifted (first k) (omega arith), shifted (others k) (omega arith))
