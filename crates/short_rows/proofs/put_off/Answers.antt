-- A coordinate more. Assumes nothing.
use Rattle.std.proofs.Common.{arith}
use Rattle.short_rows.proofs.Putting.{one_more}
use Rattle.short_rows.proofs.put_off.Goals as goal

pub loop-late-preserved : goal.loop-late-preserved
loop-late-preserved c = one_more c.loop-late.invariant (omega arith) (omega arith)
