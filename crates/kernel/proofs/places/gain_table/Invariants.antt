-- The places before `from` have gained. Assumes nothing.
use Rattle.std.proofs.Common.{◌-◌, ◌≤◌}
use Rattle.table.specs.Gained.{Gained}
use Rattle.kernel.specs.Kernel.{row_sum}
use Rattle.kernel.proofs.places.gain_table.Given as goal

abbrev pub invariant-loop-from : goal.invariant-loop-from
invariant-loop-from l = (l.from ≤ l.n) × Gained 0 l.from (row_sum l.table l.n l.words) l.fn.out l.out

abbrev pub decreases-loop-from : goal.decreases-loop-from
decreases-loop-from l = l.n - l.from
