-- Coordinates from j on give the sum: `Climbing`. Assumes nothing.
use Rattle.multilinear.specs.Inner.{tail_by}
use Rattle.field.specs.Field.{field}
use Rattle.point.proofs.Climbing.{Climbing}
use Rattle.point.proofs.equality.from_row.Given as goal

abbrev pub invariant-loop-j : goal.invariant-loop-j
invariant-loop-j l = Climbing (tail_by field) l.point.words.now l.point.count l.fn.row l.left l.j l.sum
