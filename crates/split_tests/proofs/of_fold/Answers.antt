-- `split_tests::of_fold` meets its contract: behind 1 the tests of `test_entries`, then 4, and then the words. Assumes nothing.
use Rattle.std.proofs.Common.{sym, ◌∙◌, ℕ, List, [], ◌∷◌, ltb, length, rules, arith}
use Rattle.table.specs.Table.{entries}
use Rattle.table.specs.Refusals.{Test, ◌gives◌, splits, variables, rows_differ}
use Rattle.table.specs.Inner.{entry_tests}
use Rattle.table.proofs.Verdicts.{tests, given_on}
use Rattle.work.specs.Work.{work_differs}
use Rattle.split_tests.specs.SplitTests.{fold_answer, remains}
use Rattle.split_tests.proofs.Fronts.{cleared, between_refused, between_passed}
use Rattle.split_tests.proofs.of_fold.Goals as goal

-- the three tests before those of `test_entries`
abbrev split : List ℕ → List ℕ → List ℕ → List Test
split point work out = splits point gives 1 ∷ splits work gives 1 ∷ splits out gives 1 ∷ []

pub returns-in_err-test_entries : goal.returns-in_err-test_entries
unfolding fold_answer
returns-in_err-test_entries c =
    let a = c.args in
    given_on _ _ c.from_residual-in_err-test_entries.ensures
    (between_refused (split a.point.now a.work.now a.out.now) (entry_tests (length a.table.now) a.point.now) _ (search rules) tt _
    c.in_err-test_entries.ensures)

pub returns-in_err-refuse_if-4 : goal.returns-in_err-refuse_if-4
unfolding fold_answer
returns-in_err-refuse_if-4 c =
    let a = c.args in
    between_passed (split a.point.now a.work.now a.out.now) (entry_tests (length a.table.now) a.point.now) _ (search rules) tt
    c.in_ok-test_entries.ensures (grind (arith, tests))

pub returns-in_err-refuse_if-5 : goal.returns-in_err-refuse_if-5
unfolding fold_answer
returns-in_err-refuse_if-5 c =
    let a = c.args in
    between_passed (split a.point.now a.work.now a.out.now) (entry_tests (length a.table.now) a.point.now) _ (search rules) tt
    c.in_ok-test_entries.ensures (grind (arith, tests))

pub returns-in_err-refuse_if-6 : goal.returns-in_err-refuse_if-6
unfolding fold_answer
returns-in_err-refuse_if-6 c =
    let a = c.args in
    between_passed (split a.point.now a.work.now a.out.now) (entry_tests (length a.table.now) a.point.now) _ (search rules) tt
    c.in_ok-test_entries.ensures (grind (arith, tests))

pub returns : goal.returns
unfolding fold_answer
returns c =
    let a = c.args in
    let sizes =
    ltb (variables (length a.table.now)) (entries a.point.now) gives 4
    ∷ work_differs a.work.now (entries a.point.now) gives 4
    ∷ rows_differ a.out.now (remains a.table.now a.point.now) gives 4
    ∷ [] in
    between_passed (split a.point.now a.work.now a.out.now) (entry_tests (length a.table.now) a.point.now) _ (search rules) tt
    c.in_ok-test_entries.ensures (c.words.ensures ∙ sym (cleared sizes _ (search rules)))
