-- So many coordinates are put off. Assumes nothing.
use Rattle.std.proofs.Common.{◌-◌}
use Rattle.short_rows.proofs.Putting.{Putting}
use Rattle.short_rows.proofs.put_off.Given as goal

abbrev pub invariant-loop-late : goal.invariant-loop-late
invariant-loop-late l = Putting l.inner l.count l.sums l.late

abbrev pub decreases-loop-late : goal.decreases-loop-late
decreases-loop-late l = l.count - l.late
