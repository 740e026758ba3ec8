-- A 0, by the calls' values. Assumes nothing.
use Rattle.point.proofs.Bits.{tail_zero}
use Rattle.point.proofs.equality.tail_step.Goals as goal

pub returns-then-bit-eq0 : goal.returns-then-bit-eq0
returns-then-bit-eq0 c = tail_zero _ _ _ _ _ _ c.if-bit-eq0.true c.one.ensures c.sub.ensures c.mul.ensures c.add.ensures
