-- `split_tests::of_accumulate` meets its contract: the tests of a value stand between 1 and the given scale's. Assumes nothing.
use Rattle.std.proofs.Common.{sym, ◌∙◌, [], ◌∷◌, rules, arith}
use Rattle.algebra.specs.Words.{unreduced}
use Rattle.field.specs.Field.{p}
use Rattle.table.specs.Table.{entries}
use Rattle.table.specs.Refusals.{◌gives◌, splits}
use Rattle.table.proofs.Fronts.{front_refused, front_passed}
use Rattle.table.proofs.Verdicts.{tests, given_on}
use Rattle.split_tests.specs.SplitTests.{accumulate_answer, value_tests}
use Rattle.split_tests.proofs.Fronts.{cleared}
use Rattle.split_tests.proofs.of_accumulate.Goals as goal

pub returns-in_err-value : goal.returns-in_err-value
unfolding accumulate_answer
returns-in_err-value c =
    let a = c.args in
    let split = splits a.point.now gives 1 ∷ splits a.work.now gives 1 ∷ splits a.out.now gives 1 ∷ [] in
    let values = value_tests (entries a.out.now) a.out.now a.point.now a.scale a.work.now in
    let last = unreduced p a.given.c gives 5 ∷ [] in
    given_on _ _ c.from_residual-in_err-value.ensures
    (front_refused values last tt _ c.in_err-value.ensures ∙ sym (cleared split _ (search rules)))

pub returns : goal.returns
unfolding accumulate_answer
returns c =
    let a = c.args in
    let split = splits a.point.now gives 1 ∷ splits a.work.now gives 1 ∷ splits a.out.now gives 1 ∷ [] in
    let values = value_tests (entries a.out.now) a.out.now a.point.now a.scale a.work.now in
    let last = unreduced p a.given.c gives 5 ∷ [] in
    front_passed values last tt c.in_ok-value.ensures (grind (arith, tests)) ∙ sym (cleared split _ (search rules))
