-- The halves of the first j coordinates are joined. Assumes nothing.
use Rattle.short_rows.proofs.Joining.{Joined}
use Rattle.short_rows.proofs.add_rows.Given as goal

abbrev pub invariant-loop-j : goal.invariant-loop-j
invariant-loop-j l = Joined l.last l.inner l.fn.sums l.j l.sums
