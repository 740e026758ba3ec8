-- Two coordinates more, in front. Assumes nothing.
use Rattle.std.proofs.Common.{◌≡◌, ◌*◌, ◌+◌, ◌/◌, ◌<◌, arith}
use Rattle.point.proofs.Climbing.{all, but_last, two}
use Rattle.point.proofs.equality.at_row.Goals as goal
use Rattle.point.proofs.equality.at_row.Goals.{then-point-eq1, else-point-eq1}

pub loop-i-init : goal.loop-i-init
loop-i-init c =
    elim c.if-point-eq1.branch [
      | then-point-eq1 w ↦
          let odd : c.args.point.count ≡ 2 * (c.args.point.count / 2) + 1 = omega arith in
          but_last _ _ _ c.one-product.ensures (omega arith) odd w.read.ensures w.for_bit-product.ensures w.product-is w.left-is
      | else-point-eq1 w ↦
          let even : c.args.point.count ≡ 2 * (c.args.point.count / 2) = omega arith in
          all _ _ _ (rw w.product-is c.one-product.ensures) w.left-is even
    ]

pub loop-i-preserved : goal.loop-i-preserved
loop-i-preserved c =
    two _ _ _ c.loop-i.invariant c.loop-i-test.true c.read-in-loop-i.ensures c.read-in-loop-i-2.ensures c.for_bit-low.ensures
    c.for_bit-high.ensures c.mul.ensures c.mul-product.ensures
