-- A pair more, in front. Assumes nothing.
use native.Mathlib.Omega.{arith}
use mathlib.Core.Path.{◌≡◌}
use Rattle.next.proofs.Pairs.{next_start, next_turn, next_finish}
use Rattle.next.proofs.next_parts.Goals as goal

pub loop-j-init : goal.loop-j-init
loop-j-init c = next_start _ _ _ c.one-carry.ensures c.zero-done.ensures c.one-omega.ensures

pub loop-j-preserved : goal.loop-j-preserved
loop-j-preserved c =
    next_turn _ _ _ _ c.loop-j-test.true c.read-s.ensures c.read-t.ensures c.loop-j.invariant
    c.mul-both.ensures c.done_step-done.ensures c.carry_step-carry.ensures c.mul-omega.ensures

pub returns : goal.returns
returns c =
    let z : c.loop-j.j ≡ 0 = omega arith in
    rw (← c.args.pair.counts) (next_finish _ _ _ _ z c.loop-j.invariant)
