-- By the line's answer. Assumes nothing.
use Rattle.std.proofs.Common.{◌≡◌, Some, Err, sym, ap, ◌∙◌, arith}
use Rattle.std.proofs.lemmas.Grind.{common_steps}
use Rattle.runs.specs.Reader.{line_answer}
use Rattle.frames.specs.After.{after_frame, after_accepted}
use Rattle.frames.specs.Inside.{seen}
use Rattle.frames.proofs.Gathering.{ready_seen}
use Rattle.frames.proofs.Turns.{unchanged, out_of_place, answered, line_accepted, changed}
use Rattle.frames.proofs.Run.step.Goals as goal

pub returns-in_err-frame-clause-result_value : goal.returns-in_err-frame-clause-result_value
returns-in_err-frame-clause-result_value c =
    let e = c.in_err-frame.field-0.0 in
    let q : c.from_residual.result ≡ Err e = grind (arith, common_steps) in
    rw q (out_of_place (seen c.self.inside) _ e c.in_err-frame.ensures.tests ∙ ap (λ s. line_answer s.state.reader c.args.frame) c.self.view_is)

pub returns-in_err-frame-clause-state : goal.returns-in_err-frame-clause-state
returns-in_err-frame-clause-state c =
    let e = c.in_err-frame.field-0.0 in
    ap (λ s. s.state) (sym c.self.view_is)
    ∙ unchanged (seen c.self.inside) c.args.frame e (out_of_place (seen c.self.inside) _ e c.in_err-frame.ensures.tests)
    ∙ ap (λ s. after_frame c.args.frame s.state) c.self.view_is

pub returns-in_err-frame-clause-ready : goal.returns-in_err-frame-clause-ready
returns-in_err-frame-clause-ready c = rw (← c.self.view_is) (ready_seen c.self.invariant)

pub returns-in_err-test_frame-clause-result_value : goal.returns-in_err-test_frame-clause-result_value
returns-in_err-test_frame-clause-result_value c =
    let e = c.in_err-test_frame.field-0.0 in
    let q : c.from_residual-in_err-test_frame.result ≡ Err e = grind (arith, common_steps) in
    let ok = c.in_ok-frame.ensures in
    rw q
    (answered (seen c.self.inside) _ ok.frame ok.tests c.in_err-test_frame.ensures
    ∙ ap (λ s. line_answer s.state.reader c.args.frame) c.self.view_is)

pub returns-in_err-test_frame-clause-state : goal.returns-in_err-test_frame-clause-state
returns-in_err-test_frame-clause-state c =
    let e = c.in_err-test_frame.field-0.0 in
    let ok = c.in_ok-frame.ensures in
    ap (λ s. s.state) (sym c.self.view_is)
    ∙ unchanged (seen c.self.inside) c.args.frame e (answered (seen c.self.inside) _ ok.frame ok.tests c.in_err-test_frame.ensures)
    ∙ ap (λ s. after_frame c.args.frame s.state) c.self.view_is

pub returns-in_err-test_frame-clause-ready : goal.returns-in_err-test_frame-clause-ready
returns-in_err-test_frame-clause-ready c = rw (← c.self.view_is) (ready_seen c.self.invariant)

pub take-requires : goal.take-requires
take-requires c =
    let ok = c.in_ok-frame.ensures in
    ap (λ s. line_answer s.state.reader (Some c.in_ok-frame.frame)) (sym c.self.view_is)
    ∙ line_accepted (seen c.self.inside) _ ok.frame ok.tests c.in_ok-test_frame.ensures

pub returns-clause-result_value : goal.returns-clause-result_value
returns-clause-result_value c =
    let ok = c.in_ok-frame.ensures in
    answered (seen c.self.inside) _ ok.frame ok.tests c.in_ok-test_frame.ensures
    ∙ ap (λ s. line_answer s.state.reader c.args.frame) c.self.view_is

pub returns-clause-state : goal.returns-clause-state
returns-clause-state c =
    let ok = c.in_ok-frame.ensures in
    c.take.ensures.state
    ∙ ap (λ s. after_accepted c.in_ok-frame.frame s.state) (sym c.self.view_is)
    ∙ changed (seen c.self.inside) _ ok.frame ok.tests c.in_ok-test_frame.ensures
    ∙ ap (λ s. after_frame c.args.frame s.state) c.self.view_is
