-- Four rows more. Assumes nothing.
use Rattle.std.proofs.Common.{arith}
use Rattle.table.proofs.Tests.{reduced_at}
use Rattle.kernel.proofs.Placing.{no_rows, four_columns, totals_space, four_more, four_reduced}
use Rattle.kernel.proofs.places.add_rows.Goals as goal

pub loop-j-init : goal.loop-j-init
loop-j-init c = (omega arith, no_rows _ _ _ _ c.requires.none)

pub add_four-requires-clause-weights : goal.add_four-requires-clause-weights
add_four-requires-clause-weights c =
    let reduced = reduced_at c.args.table.now c.requires.rows.table_below in
    record {
      few = omega arith;
      below = four_reduced (rw c.get.ensures (reduced _)) (rw c.get-in-loop-j.ensures (reduced _)) (rw c.get-in-loop-j-2.ensures (reduced _))
          (rw c.get-in-loop-j-3.ensures (reduced _));
    }

pub add_four-requires-clause-words : goal.add_four-requires-clause-words
add_four-requires-clause-words c = four_columns _ _ _ _ c.requires.rows _ c.loop-j-test.true

pub add_four-requires-clause-room : goal.add_four-requires-clause-room
add_four-requires-clause-room c = totals_space _ _ _ _ c.requires.rows _ c.loop-j.invariant.1 (omega arith)

pub loop-j-preserved : goal.loop-j-preserved
loop-j-preserved c = (
  omega arith,
  four_more _ _ _ _ c.requires.rows _ c.loop-j.invariant.1 c.get.ensures c.get-in-loop-j.ensures c.get-in-loop-j-2.ensures
      c.get-in-loop-j-3.ensures c.add_four.ensures,
)
