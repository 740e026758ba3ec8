-- The first i places are added. Assumes nothing.
use Rattle.std.proofs.Common.{◌≤◌}
use Rattle.table.specs.Gained.{Gained}
use Rattle.kernel.specs.Inner.{brought}
use Rattle.kernel.proofs.places.settle.Given as goal

abbrev pub invariant-loop-i : goal.invariant-loop-i
invariant-loop-i l = (l.i ≤ l.count) × Gained l.from l.i (brought l.sums) l.fn.out l.out
