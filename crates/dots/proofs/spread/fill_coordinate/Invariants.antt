-- The loop of `spread::fill_coordinate`: the words of the weights before y are there.
use Rattle.std.proofs.Common.{◌+◌, ◌*◌, ◌/◌}
use Rattle.dots.specs.Dots.{Filled}
use Rattle.dots.proofs.spread.fill_coordinate.Given as goal

abbrev pub invariant-loop-y : goal.invariant-loop-y
invariant-loop-y g l = Filled g.row.WORDS l.table (l.c * (g.row.WORDS / 4) + l.y) l.room
