-- A pair more, in front. Assumes nothing.
use native.Mathlib.Omega.{arith}
use mathlib.Core.Path.{◌≡◌}
use Rattle.next.proofs.Pairs.{agreed_start, agreed_turn, agreed_finish}
use Rattle.next.proofs.agreements.Goals as goal

pub loop-j-init : goal.loop-j-init
loop-j-init c = agreed_start _ _ _ c.one-product.ensures

pub loop-j-preserved : goal.loop-j-preserved
loop-j-preserved c =
    agreed_turn _ _ _ _ c.loop-j-test.true c.read-s.ensures c.read-t.ensures c.loop-j.invariant c.agree.ensures c.mul-product.ensures

pub returns : goal.returns
returns c =
    let z : c.loop-j.j ≡ 0 = omega arith in
    rw (← c.args.pair.counts) (agreed_finish _ _ _ _ z c.loop-j.invariant)
