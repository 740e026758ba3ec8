-- `fixing::sum_prefix_var_mut` meets its contract: by the tests' answers. Assumes nothing.
use Rattle.std.proofs.Common.{sym, ◌∙◌, ◌^◌, ◌<◌, length, arith}
use borrow.Author.Tests.{ne_eqb}
use Rattle.table.proofs.Verdicts.{clear}
use Rattle.table.proofs.Outcomes.{refused_leaves}
use Rattle.fixing.proofs.FixingOutcomes.{two_halves, by_sizes, by_words, sum_out_refused, sum_answer_constant, sum_out_constant}
use Rattle.fixing.proofs.sum_prefix_var_mut.Goals as goal

pub returns-in_err-test_sizes-clause-entries_after : goal.returns-in_err-test_sizes-clause-entries_after
returns-in_err-test_sizes-clause-entries_after c = sym (sum_out_refused _ _ (by_sizes _ _ c.in_err-test_sizes.ensures))

pub returns-in_err-test_words-clause-entries_after : goal.returns-in_err-test_words-clause-entries_after
returns-in_err-test_words-clause-entries_after c =
    sym (sum_out_refused _ _ (by_words _ c.in_ok-test_sizes.ensures c.in_err-test_words.ensures))

pub returns-then-n-eq1-clause-result_value : goal.returns-then-n-eq1-clause-result_value
returns-then-n-eq1-clause-result_value c =
    sum_answer_constant _ (by_words _ c.in_ok-test_sizes.ensures c.in_ok-test_words.ensures) c.if-n-eq1.true

pub returns-then-n-eq1-clause-entries_after : goal.returns-then-n-eq1-clause-entries_after
returns-then-n-eq1-clause-entries_after c =
    sym (sum_out_constant _ (by_words _ c.in_ok-test_sizes.ensures c.in_ok-test_words.ensures) c.if-n-eq1.true)

pub sum_halves-requires : goal.sum_halves-requires
sum_halves-requires c =
    let fits : length c.args.entries.now < 2 ^ 64 = omega arith in
    let h = clear _ tt c.in_ok-test_sizes.ensures in
    two_halves _ fits h.0 h.1.0 (ne_eqb _ _ c.if-n-eq1.false)

pub returns-in_err-sum_halves-clause-entries_after : goal.returns-in_err-sum_halves-clause-entries_after
returns-in_err-sum_halves-clause-entries_after c =
    let e = c.in_err-sum_halves.ensures in
    e.entries_after ∙ refused_leaves _ _ e.result_value _ _
    ∙ sym (sum_out_refused _ _ (by_words _ c.in_ok-test_sizes.ensures e.result_value))
