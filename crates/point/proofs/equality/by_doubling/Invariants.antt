-- The table of the coordinates that entered, times the scale, which was put at 0: `Filling`. Assumes nothing.
use Rattle.field.specs.Field.{from_words}
use Rattle.point.proofs.Filling.{Filling}
use Rattle.point.proofs.equality.by_doubling.Given as goal

abbrev pub invariant-loop-i : goal.invariant-loop-i
invariant-loop-i l = Filling (from_words l.fn.scale) l.fn.order l.point.words.now l.point.count l.i l.len l.out
