-- By the tests of sizes, and by the others. Assumes nothing.
use Rattle.std.proofs.lemmas.Result.{err_from_is_err_and}
use Rattle.ward.proofs.FoldOutcomes.{refused_by_size, by_others}
use Rattle.ward.proofs.shifted.Fold.test.Goals as goal

pub returns-in_err-test_sizes : goal.returns-in_err-test_sizes
returns-in_err-test_sizes c =
    let p = err_from_is_err_and c.from_residual.result c.from_residual.ensures.1 in
    rw (p.1, p.2)
    (refused_by_size c.args.self.now c.args.work.now c.args.out.now c.in_err-test_sizes.field-0.0 c.in_err-test_sizes.ensures)

pub returns : goal.returns
returns c = by_others c.args.self.now c.args.work.now c.args.out.now c.in_ok-test_sizes.ensures c.test_others.ensures
