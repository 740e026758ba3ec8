-- The rows of the first j fours are added. Assumes nothing.
use Rattle.std.proofs.Common.{◌/◌, ◌≤◌, length}
use Rattle.kernel.specs.Inner.{Totals}
use Rattle.kernel.proofs.places.add_rows.Given as goal

abbrev pub invariant-loop-j : goal.invariant-loop-j
invariant-loop-j l = (l.j ≤ length l.table / 16) × Totals l.count l.n l.words l.table l.j l.sums
