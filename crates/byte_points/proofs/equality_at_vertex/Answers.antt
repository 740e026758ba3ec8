-- The exits, and what out is at the end. Assumes nothing.
use Rattle.std.proofs.Common.{◌∙◌, sym}
use Rattle.std.proofs.lemmas.Result.{err_from_is_err_and}
use Rattle.byte_points.proofs.Outcomes.{vertex_by_size, vertex_refused, vertex_valued}
use Rattle.byte_points.proofs.equality_at_vertex.Goals as goal

pub returns-in_err-test_vertex-clause-result_value : goal.returns-in_err-test_vertex-clause-result_value
returns-in_err-test_vertex-clause-result_value c =
    let a = c.args in
    let p = err_from_is_err_and c.from_residual.result c.from_residual.ensures.1 in
    rw (p.1, p.2) (sym (vertex_by_size a.point.now a.vertex a.out.now c.in_err-test_vertex.field-0.0 c.in_err-test_vertex.ensures).0)

pub returns-in_err-test_vertex-clause-out_after : goal.returns-in_err-test_vertex-clause-out_after
returns-in_err-test_vertex-clause-out_after c =
    let a = c.args in
    sym (vertex_by_size a.point.now a.vertex a.out.now c.in_err-test_vertex.field-0.0 c.in_err-test_vertex.ensures).1

pub returns-in_err-value-clause-result_value : goal.returns-in_err-value-clause-result_value
returns-in_err-value-clause-result_value c =
    let a = c.args in
    let p = err_from_is_err_and c.from_residual-in_err-value.result c.from_residual-in_err-value.ensures.1 in
    rw (p.1, p.2)
    (sym (vertex_refused a.point.now a.vertex a.out.now c.in_err-value.field-0.0 c.in_ok-test_vertex.ensures c.in_err-value.ensures).0)

pub returns-in_err-value-clause-out_after : goal.returns-in_err-value-clause-out_after
returns-in_err-value-clause-out_after c =
    let a = c.args in
    sym (vertex_refused a.point.now a.vertex a.out.now c.in_err-value.field-0.0 c.in_ok-test_vertex.ensures c.in_err-value.ensures).1

pub returns-clause-out_after : goal.returns-clause-out_after
returns-clause-out_after c =
    let a = c.args in
    c.encode.ensures ∙ sym (vertex_valued a.point.now a.vertex a.out.now c.in_ok-value.value c.in_ok-test_vertex.ensures c.in_ok-value.ensures).1
