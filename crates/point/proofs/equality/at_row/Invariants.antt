-- Coordinates from 2i on give the product: `Climbing`. Assumes nothing.
use Rattle.std.proofs.Common.{◌*◌}
use Rattle.multilinear.specs.Equality.{eq_at}
use Rattle.field.specs.Field.{field}
use Rattle.point.proofs.Climbing.{Climbing}
use Rattle.point.proofs.equality.at_row.Given as goal

abbrev pub invariant-loop-i : goal.invariant-loop-i
invariant-loop-i l = Climbing (eq_at field) l.point.words.now l.point.count l.fn.row l.left (2 * l.i) l.product
