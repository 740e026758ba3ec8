-- The table of the rows' weights, and the rows by it. Assumes nothing.
use Rattle.std.proofs.Common.{length, ap, ◌∙◌}
use Rattle.algebra.specs.Words.{unreduced}
use Rattle.field.specs.Field.{p}
use Rattle.table.proofs.Laws.{table_length}
use Rattle.table.proofs.Tests.{unreduced_table}
use Rattle.scatter.proofs.WholeRows.{all_rows}
use Rattle.scatter.proofs.block_rows.Goals as goal

pub by_table-requires : goal.by_table-requires
by_table-requires c =
    let table = rw c.requires.five.0 at c.fill.ensures in
    record {
      weights_there = ap length table ∙ table_length 32 _;
      weights_below = ap (unreduced p) table ∙ unreduced_table 32 _;
      rows_are = c.requires.rows.0;
      out_below = c.requires.rows.1;
    }

pub returns : goal.returns
returns c = all_rows _ _ _ _ c.args.rest c.requires.five.0 c.fill.ensures c.by_table.ensures
