-- By the tests of both operands. Assumes nothing.
use Rattle.std.proofs.Common.{◌∙◌}
use Rattle.std.proofs.lemmas.Result.{err_from_is_err_and}
use Rattle.table.proofs.Outcomes.{refused_outcome, accepted_outcome}
use Rattle.table.proofs.Says.{says, accepted}
use Rattle.host.proofs.Applying.{by_tests}
use Rattle.host.proofs.elements.operate.Goals as goal

pub returns-in_err-test : goal.returns-in_err-test
returns-in_err-test c =
    let p = err_from_is_err_and c.from_residual.result c.from_residual.ensures.1 in
    rw (p.1, p.2)
    (refused_outcome _ c.in_err-test.field-0.0 (c.in_err-test.ensures ∙ by_tests c.args.x.now c.args.y.now) _)

pub element-requires : goal.element-requires
element-requires c =
    let h = accepted _ tt c.in_ok-test.ensures in
    search says

pub returns : goal.returns
returns c =
    accepted_outcome _ (c.in_ok-test.ensures ∙ by_tests c.args.x.now c.args.y.now) _ _ c.element.ensures
