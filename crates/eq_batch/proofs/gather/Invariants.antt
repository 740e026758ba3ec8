-- The rows that are left, and the first i rows of the column: `Rows`. Assumes nothing.
use Rattle.eq_batch.proofs.Rows.{Rows}
use Rattle.eq_batch.proofs.gather.Given as goal

abbrev pub invariant-loop-i : goal.invariant-loop-i
invariant-loop-i l =
    Rows l.n l.w l.j l.points l.point l.i-iterator.iter.iter.rest.now l.i-iterator.iter.iter.size l.i-iterator.iter.n l.i-iterator.count
