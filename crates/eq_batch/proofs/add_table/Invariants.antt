-- The first i places have gained. Assumes nothing.
use Rattle.table.specs.Table.{element_at}
use Rattle.table.specs.Gained.{Gained}
use Rattle.eq_batch.proofs.add_table.Given as goal

abbrev pub invariant-loop-i : goal.invariant-loop-i
invariant-loop-i l = Gained 0 l.i (element_at l.rows) l.fn.out l.out
