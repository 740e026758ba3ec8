-- A point more. Assumes nothing.
use mathlib.Core.Path.{◌≡◌}
use native.Mathlib.Omega.{arith}
use Rattle.table.specs.Table.{entries}
use Rattle.eq_batch.proofs.Rooms.{room_gained}
use Rattle.eq_batch.proofs.Summing.{start, turn}
use Rattle.eq_batch.proofs.add_points.Goals as goal

pub loop-j-init : goal.loop-j-init
loop-j-init c = start _ _ _ _ c.requires.1

pub gather-column-requires : goal.gather-column-requires
gather-column-requires c =
    let is = c.requires.0 in
    record { few = is.few; few_points = is.few_points; within = c.loop-j-test.true; rows = is.rows; below = is.points_below }

pub invariant_of-point : goal.invariant_of-point
invariant_of-point c =
    let few = c.requires.0.few in
    let is = c.gather-column.ensures in
    record { tested = record { few = few; count = omega (arith, few, is.size); below = is.below } }

pub read-requires : goal.read-requires
read-requires c = (omega arith, c.requires.0.scalars_below)

pub add_point-requires : goal.add_point-requires
add_point-requires c = (c.read.ensures.below, room_gained c.requires.1 c.loop-j.invariant)

pub loop-j-preserved : goal.loop-j-preserved
loop-j-preserved c = turn _ _ _ _ _ _ c.loop-j.invariant _ _ c.read.ensures c.gather-column.ensures.point_is c.add_point.ensures

pub returns : goal.returns
returns c =
    let q : c.loop-j.j ≡ entries c.args.scalars.now = omega arith in
    rw q at c.loop-j.invariant
