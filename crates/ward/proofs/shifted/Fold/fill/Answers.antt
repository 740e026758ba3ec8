-- Both tables of the point, and the fold of the bytes. Assumes nothing.
use Rattle.std.proofs.Common.{arith}
use Rattle.ward.proofs.Folding.{tested, point_is, tables, plan_takes, folds, filled, folded_as}
use Rattle.ward.proofs.shifted.Fold.fill.Goals as goal

pub coordinates-point-requires : goal.coordinates-point-requires
coordinates-point-requires c = (tested c.requires).point_few

pub of-requires : goal.of-requires
of-requires c = point_is (tested c.requires) c.variables-n.ensures c.coordinates-point.ensures

pub fill_tables-requires : goal.fill_tables-requires
fill_tables-requires c =
    tables (tested c.requires) c.variables-n.ensures c.coordinates-point.ensures c.of.ensures.count

pub padded-requires : goal.padded-requires
padded-requires c = plan_takes (tested c.requires) c.variables-n.ensures c.coordinates-point.ensures

pub compress-requires : goal.compress-requires
compress-requires c =
    rw c.padded.ensures
    (folds (tested c.requires) c.variables-n.ensures c.coordinates-point.ensures (omega arith))

pub returns-clause-work_after : goal.returns-clause-work_after
returns-clause-work_after c =
    filled (tested c.requires) c.variables-n.ensures c.coordinates-point.ensures c.of.result c.of.ensures.words c.of.ensures.count c.fill_tables.ensures

pub returns-clause-out_after : goal.returns-clause-out_after
returns-clause-out_after c =
    folded_as (tested c.requires) c.variables-n.ensures c.coordinates-point.ensures
    (rw c.padded.ensures at c.compress.ensures)
