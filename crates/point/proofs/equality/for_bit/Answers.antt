-- By the bit: 1 - c, or c. Assumes nothing.
use Rattle.std.proofs.Common.{rules}
use Rattle.point.proofs.Bits.{for_zero, for_one}
use Rattle.point.proofs.equality.for_bit.Goals as goal

pub returns-then-bit-eq0 : goal.returns-then-bit-eq0
returns-then-bit-eq0 c = for_zero _ _ _ c.if-bit-eq0.true c.one.ensures c.sub.ensures

pub returns : goal.returns
returns c = for_one _ _ c.if-bit-eq0.false (search rules) c.requires
