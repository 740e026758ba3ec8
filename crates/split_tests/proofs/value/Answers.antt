-- The tests of `test_entries`, two more, and those of the words. Assumes nothing.
use Rattle.std.proofs.Common.{sym, ◌∙◌, [], ◌∷◌, eqb, not, rules, arith}
use Rattle.table.specs.Table.{entries}
use Rattle.table.specs.Refusals.{◌gives◌, variables}
use Rattle.table.specs.Inner.{entry_tests}
use Rattle.table.proofs.Fronts.{front_refused, front_passed}
use Rattle.table.proofs.Verdicts.{tests, given_on}
use Rattle.work.specs.Work.{work_differs}
use Rattle.split_tests.proofs.Fronts.{cleared}
use Rattle.split_tests.proofs.value.Goals as goal

pub returns-in_err-test_entries : goal.returns-in_err-test_entries
returns-in_err-test_entries c =
    given_on _ _ c.from_residual.ensures
    (front_refused (entry_tests c.args.count c.args.point.now) _ tt _ c.in_err-test_entries.ensures)

pub returns-in_err-refuse_if : goal.returns-in_err-refuse_if
returns-in_err-refuse_if c =
    front_passed (entry_tests c.args.count c.args.point.now) _ tt c.in_ok-test_entries.ensures (grind (arith, tests))

pub returns-in_err-refuse_if-2 : goal.returns-in_err-refuse_if-2
returns-in_err-refuse_if-2 c =
    front_passed (entry_tests c.args.count c.args.point.now) _ tt c.in_ok-test_entries.ensures (grind (arith, tests))

pub returns : goal.returns
returns c =
    let k = entries c.args.point.now in
    let sizes = not (eqb (variables c.args.count) k) gives 4 ∷ work_differs c.args.work.now k gives 4 ∷ [] in
    front_passed (entry_tests c.args.count c.args.point.now) _ tt c.in_ok-test_entries.ensures
    (c.words.ensures ∙ sym (cleared sizes _ (search rules)))
