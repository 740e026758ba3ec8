-- The first i elements have gained. Assumes nothing.
use Rattle.std.proofs.Common.{◌≤◌}
use Rattle.table.specs.Gained.{Gained}
use Rattle.kernel.specs.Kernel.{row_at}
use Rattle.kernel.proofs.gain_row.Given as goal

abbrev pub invariant-loop-i : goal.invariant-loop-i
invariant-loop-i l =
    (l.i ≤ l.i-end) × Gained l.from l.i (row_at l.weight l.apart l.words) l.fn.out l.out
