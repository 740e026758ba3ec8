-- A coordinate more, and then the row that is left. Assumes nothing.
use Rattle.std.proofs.Common.{arith}
use Rattle.short_rows.proofs.Joining.{start, half_fits, halves, next, front, finish}
use Rattle.short_rows.proofs.add_rows.Goals as goal

pub loop-j-init : goal.loop-j-init
loop-j-init c = start c.requires

pub overflow_mul-half : goal.overflow_mul-half
overflow_mul-half c = omega (arith, half_fits c.requires c.loop-j.invariant (omega arith) c.rows.ensures)

pub join_halves-requires : goal.join_halves-requires
join_halves-requires c = halves c.requires c.loop-j.invariant (omega arith) c.rows.ensures c.read.ensures

pub loop-j-preserved : goal.loop-j-preserved
loop-j-preserved c = next c.requires c.loop-j.invariant (omega arith) c.rows.ensures c.read.ensures c.join_halves.ensures

pub add-requires : goal.add-requires
add-requires c = front c.requires c.loop-j.invariant

pub returns : goal.returns
returns c = finish c.requires c.loop-j.invariant (omega arith) c.add.ensures
