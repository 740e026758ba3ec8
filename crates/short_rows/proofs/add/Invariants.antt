-- The first i elements have gained. Assumes nothing.
use Rattle.table.specs.Table.{element_at}
use Rattle.table.specs.Gained.{Gained}
use Rattle.short_rows.proofs.add.Given as goal

abbrev pub invariant-loop-i : goal.invariant-loop-i
invariant-loop-i l = Gained 0 l.i (element_at l.sums) l.fn.out l.out
