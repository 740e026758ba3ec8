-- Line by line. Assumes nothing.
use Rattle.std.proofs.Common.{◌+◌, sym, ap, ◌∙◌, arith}
use Rattle.program.specs.Inner.{ended}
use Rattle.program.proofs.Cutting.{stop, last, turn, there, behind}
use Rattle.program.proofs.Program.feed.Goals as goal

pub returns-in_default : goal.returns-in_default
returns-in_default c =
    c.hold.ensures.line
    ∙ last c.loop-rest.invariant (sym c.is_stopped.ensures ∙ c.loop-rest-test.true) c.hold.ensures.few
    (sym c.find_line_feed.ensures ∙ c.in_default.is)

pub overflow_add-rest : goal.overflow_add-rest
overflow_add-rest c =
    let inside = (there c.loop-rest.rest.now c.in-Some.end (sym c.find_line_feed.ensures ∙ c.in-Some.is)).1 in
    record { fits = omega (arith, inside, c.loop-rest.invariant.within) }

pub loop-rest-preserved : goal.loop-rest-preserved
loop-rest-preserved c =
    turn c.loop-rest.invariant (sym c.is_stopped.ensures ∙ c.loop-rest-test.true) c.hold-in-loop-rest.ensures.few c.in-Some.end
    (sym c.find_line_feed.ensures ∙ c.in-Some.is) (c.end_line.ensures ∙ ap ended c.hold-in-loop-rest.ensures.line)
    (behind (c.in-Some.end + 1) c.loop-rest.rest.now)

pub returns : goal.returns
returns c = stop c.loop-rest.invariant (sym c.is_stopped.ensures ∙ c.loop-rest-test.false)
