-- The rows of both halves are few. Assumes nothing.
use Rattle.std.proofs.Common.{◌/◌, arith, length}
use Rattle.ward.proofs.Halves.{both_small}
use Rattle.ward.proofs.FoldOutcomes.{few}
use Rattle.ward.proofs.shifted.Fold.test_others.Goals as goal

pub overflow_add-both : goal.overflow_add-both
overflow_add-both c =
    let small = few c.args.self.now c.args.work.now c.args.out.now c.requires in
    omega (arith, both_small (length c.args.self.now.point.now / 4 / 4) small.1, c.rows.ensures, c.rows-2.ensures)
