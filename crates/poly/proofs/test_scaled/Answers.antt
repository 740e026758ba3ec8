-- The tests of a table, and the scale's. Assumes nothing.
use Rattle.std.proofs.Common.{arith}
use Rattle.point.specs.Point.{table_tests, table_answer}
use Rattle.table.proofs.Fronts.{front_refused, front_passed}
use Rattle.table.proofs.Verdicts.{tests, given_on}
use Rattle.poly.specs.Poly.{new_answer}
use Rattle.poly.proofs.test_scaled.Goals as goal

pub returns-in_err-test_table : goal.returns-in_err-test_table
unfolding new_answer table_answer
returns-in_err-test_table c =
    given_on _ _ c.from_residual.ensures
    (front_refused (table_tests c.args.point.now c.args.out.now) _ tt _ c.in_err-test_table.ensures)

pub returns : goal.returns
unfolding new_answer table_answer
returns c = front_passed (table_tests c.args.point.now c.args.out.now) _ tt c.in_ok-test_table.ensures (grind (arith, tests))
