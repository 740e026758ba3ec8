-- By the step's answer. Assumes nothing.
use Rattle.std.proofs.Common.{◌≡◌, false, Ok, Err, ap, ◌∙◌}
use Rattle.program.specs.Inside.{seen}
use Rattle.program.specs.Inner.{ended}
use Rattle.program.proofs.OneLine.{stepped, line_refused, out_fits, line_accepted, accepted_goes}
use Rattle.program.proofs.Program.end_line.Goals as goal

pub put_out-requires-clause-room : goal.put_out-requires-clause-room
put_out-requires-clause-room c =
    let s = seen c.self.inside in
    let on : c.self.inside.stopped ≡ false = ap (λ v. v.fed.feeding.stopped) c.self.view_is ∙ c.requires in
    let t = c.in-Ok.ensures in
    let st = stepped s (Ok tt) c.decode-frame.ensures c.as_slice.ensures.items t.result_value t.state t.ready in
    out_fits c.self.invariant on st

pub invariant_of-self : goal.invariant_of-self
invariant_of-self c =
    let s = seen c.self.inside in
    let on : c.self.inside.stopped ≡ false = ap (λ v. v.fed.feeding.stopped) c.self.view_is ∙ c.requires in
    let t = c.in-Ok.ensures in
    let st = stepped s (Ok tt) c.decode-frame.ensures c.as_slice.ensures.items t.result_value t.state t.ready in
    rw (c.clear.ensures, on) (accepted_goes c.self.invariant on st c.put_out.ensures)

pub returns-in-Ok : goal.returns-in-Ok
returns-in-Ok c =
    let s = seen c.self.inside in
    let on : c.self.inside.stopped ≡ false = ap (λ v. v.fed.feeding.stopped) c.self.view_is ∙ c.requires in
    let t = c.in-Ok.ensures in
    let st = stepped s (Ok tt) c.decode-frame.ensures c.as_slice.ensures.items t.result_value t.state t.ready in
    rw (c.clear.ensures, on) (line_accepted c.self.invariant on st c.put_out.ensures) ∙ ap (λ v. ended v.fed) c.self.view_is

pub returns-in-Err : goal.returns-in-Err
returns-in-Err c =
    let s = seen c.self.inside in
    let on : c.self.inside.stopped ≡ false = ap (λ v. v.fed.feeding.stopped) c.self.view_is ∙ c.requires in
    let t = c.in-Err.ensures in
    let st = stepped s (Err c.in-Err.refusal) c.decode-frame.ensures c.as_slice.ensures.items t.result_value t.state t.ready in
    rw c.clear.ensures (line_refused c.self.invariant on c.in-Err.refusal st c.put_refusal.ensures) ∙ ap (λ v. ended v.fed) c.self.view_is
