-- The loop of `spread::fill`: the coordinates before c are there.
use Rattle.std.proofs.Common.{◌*◌, ◌/◌}
use Rattle.dots.specs.Dots.{Filled}
use Rattle.dots.proofs.spread.fill.Given as goal

abbrev pub invariant-loop-c : goal.invariant-loop-c
invariant-loop-c g l = Filled g.row.WORDS l.table (l.c * (g.row.WORDS / 4)) l.room
