-- The exits, and what out is at the end. Assumes nothing.
use Rattle.std.proofs.Common.{◌∙◌, sym, ap}
use Rattle.std.proofs.lemmas.Result.{err_from_is_err_and}
use Rattle.octets.specs.Octets.{octets}
use Rattle.byte_points.proofs.Outcomes.{next_by_size, next_refused, next_valued}
use Rattle.byte_points.proofs.eval_next.Goals as goal

pub returns-in_err-test_next-clause-result_value : goal.returns-in_err-test_next-clause-result_value
returns-in_err-test_next-clause-result_value c =
    let a = c.args in
    let p = err_from_is_err_and c.from_residual.result c.from_residual.ensures.1 in
    rw (p.1, p.2) (sym (next_by_size a.point.now a.other.now a.out.now c.in_err-test_next.field-0.0 c.in_err-test_next.ensures).0)

pub returns-in_err-test_next-clause-out_after : goal.returns-in_err-test_next-clause-out_after
returns-in_err-test_next-clause-out_after c =
    let a = c.args in
    sym (next_by_size a.point.now a.other.now a.out.now c.in_err-test_next.field-0.0 c.in_err-test_next.ensures).1

pub returns-in_err-parts-clause-result_value : goal.returns-in_err-parts-clause-result_value
returns-in_err-parts-clause-result_value c =
    let a = c.args in
    let p = err_from_is_err_and c.from_residual-in_err-parts.result c.from_residual-in_err-parts.ensures.1 in
    rw (p.1, p.2)
    (sym (next_refused a.point.now a.other.now a.out.now c.in_err-parts.field-0.0 c.in_ok-test_next.ensures c.in_err-parts.ensures).0)

pub returns-in_err-parts-clause-out_after : goal.returns-in_err-parts-clause-out_after
returns-in_err-parts-clause-out_after c =
    let a = c.args in
    sym (next_refused a.point.now a.other.now a.out.now c.in_err-parts.field-0.0 c.in_ok-test_next.ensures c.in_err-parts.ensures).1

pub returns-clause-out_after : goal.returns-clause-out_after
returns-clause-out_after c =
    let a = c.args in
    c.encode.ensures ∙ ap octets c.words.ensures
    ∙ sym (next_valued a.point.now a.other.now a.out.now c.in_ok-parts.parts c.in_ok-test_next.ensures c.in_ok-parts.ensures).1
