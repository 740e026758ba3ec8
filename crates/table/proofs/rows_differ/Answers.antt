-- `table::rows_differ` meets its contract: a length fits a u64, so no slice has 2⁶² elements. Assumes nothing.
use Rattle.std.proofs.Common.{◌^◌, ◌≤◌, ◌≢◌, not, sym, ap, arith}
use borrow.Author.Tests.{ne_eqb}
use lib.Pow.{pow_mono}
use Rattle.table.specs.Table.{entries}
use Rattle.table.proofs.rows_differ.Goals as goal

pub returns-then-k-gt61 : goal.returns-then-k-gt61
returns-then-k-gt61 c =
    let few : 2 ^ 62 ≤ 2 ^ c.args.k = pow_mono c.if-k-gt61.true in
    let d : entries c.args.out.now ≢ 2 ^ c.args.k = λ e. omega arith in
    sym (ap not (ne_eqb _ _ d))
