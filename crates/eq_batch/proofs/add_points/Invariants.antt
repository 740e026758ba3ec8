-- out has gained the sum over the first j points. Assumes nothing.
use Rattle.std.proofs.Common.{◌^◌}
use Rattle.field.specs.Field.{field}
use Rattle.multilinear.specs.Beside.{eval_batch}
use Rattle.table.specs.Table.{element_at}
use Rattle.table.specs.Gained.{Gained}
use Rattle.eq_batch.specs.Batch.{column}
use Rattle.eq_batch.proofs.add_points.Given as goal

abbrev pub invariant-loop-j : goal.invariant-loop-j
invariant-loop-j l = Gained 0 (2 ^ l.n) (eval_batch field l.j (element_at l.scalars) (column l.points l.n l.w)) l.initial.out l.out
