-- The tests of `test_sizes`, and three more. Assumes nothing.
use Rattle.std.proofs.Common.{arith}
use Rattle.table.proofs.Fronts.{front_refused, front_passed}
use Rattle.table.proofs.Verdicts.{tests, given_on}
use Rattle.fixing.specs.Inner.{size_tests}
use Rattle.fixing.proofs.test_fix.Goals as goal

pub returns-in_err-test_sizes : goal.returns-in_err-test_sizes
returns-in_err-test_sizes c =
    given_on _ _ c.from_residual.ensures (front_refused (size_tests c.args.entries.now) _ tt _ c.in_err-test_sizes.ensures)

pub returns-in_err-refuse_if : goal.returns-in_err-refuse_if
returns-in_err-refuse_if c = front_passed (size_tests c.args.entries.now) _ tt c.in_ok-test_sizes.ensures (grind (arith, tests))

pub returns-in_err-refuse_if-2 : goal.returns-in_err-refuse_if-2
returns-in_err-refuse_if-2 c = front_passed (size_tests c.args.entries.now) _ tt c.in_ok-test_sizes.ensures (grind (arith, tests))

pub returns : goal.returns
returns c = front_passed (size_tests c.args.entries.now) _ tt c.in_ok-test_sizes.ensures (grind (arith, tests))
