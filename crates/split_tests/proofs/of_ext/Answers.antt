-- `split_tests::of_ext` meets its contract: behind 1 the tests of a value decide. Assumes nothing.
use Rattle.std.proofs.Common.{sym, ◌∙◌, [], ◌∷◌, rules}
use Rattle.table.specs.Refusals.{◌gives◌, splits}
use Rattle.split_tests.specs.SplitTests.{ext_answer}
use Rattle.split_tests.proofs.Fronts.{cleared}
use Rattle.split_tests.proofs.of_ext.Goals as goal

pub returns : goal.returns
unfolding ext_answer
returns c =
    let split = splits c.args.table.now gives 1 ∷ splits c.args.point.now gives 1 ∷ splits c.args.work.now gives 1 ∷ [] in
    c.value.ensures ∙ sym (cleared split _ (search rules))
