-- out has gained the first h blocks. Assumes nothing.
use Rattle.std.proofs.Common.{◌*◌}
use Rattle.table.specs.Gained.{Gained}
use Rattle.point.specs.Points.{coordinates}
use Rattle.eq_batch.specs.Inner.{scaled_at}
use Rattle.eq_batch.proofs.add_point.Given as goal

abbrev pub invariant-loop-h : goal.invariant-loop-h
invariant-loop-h l = Gained 0 (l.h * l.rows) (scaled_at l.fn.scale (coordinates l.point)) l.initial.out l.out
