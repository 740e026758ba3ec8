-- The first y elements have gained. Assumes nothing.
use Rattle.std.proofs.Common.{◌≤◌}
use Rattle.table.specs.Gained.{Gained}
use Rattle.kernel.specs.Kernel.{rows_at}
use Rattle.kernel.proofs.gain_short_rows.Given as goal

abbrev pub invariant-loop-y : goal.invariant-loop-y
invariant-loop-y g l = (l.y ≤ l.n) × Gained l.from l.y (rows_at g.row.N l.weights l.n l.words) l.fn.out l.out
