-- The first i elements are doubled: `Doubled`. Assumes nothing.
use Rattle.field.specs.Field.{from_words}
use Rattle.point.specs.Inner.{Doubled}
use Rattle.point.proofs.equality.double.Given as goal

abbrev pub invariant-loop-i : goal.invariant-loop-i
invariant-loop-i l = Doubled l.n l.i (from_words l.m.r) l.fn.out l.out
