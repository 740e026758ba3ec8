-- A word more. Assumes nothing.
use Rattle.std.proofs.Common.{arith}
use Rattle.padding.proofs.Keeping.{turn, finish}
use Rattle.padding.proofs.keep_row.Goals as goal

pub loop-word-preserved : goal.loop-word-preserved
loop-word-preserved c = turn c.loop-word.invariant (omega arith) c.following-place.ensures

pub returns : goal.returns
returns c = finish c.loop-word.invariant (omega arith)
