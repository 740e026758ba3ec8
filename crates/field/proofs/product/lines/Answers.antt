-- `field::product::lines` meets its contract: the sums are those of the four lines. Assumes nothing.
use Rattle.std.proofs.Common.{◌≡◌, arith}
use Rattle.algebra.specs.Lines.{lines, gather}
use Rattle.field.specs.Product.{once_at, back_at}
use Rattle.field.proofs.product.lines.Goals as goal

pub returns-in-0 : goal.returns-in-0
unfolding once_at back_at lines gather
returns-in-0 g c = rw c.in-0.is (record {
  once_is = omega arith;
  back_is = omega arith;
})

pub returns-in-1 : goal.returns-in-1
unfolding once_at back_at lines gather
returns-in-1 g c = rw c.in-1.is (record {
  once_is = omega arith;
  back_is = omega arith;
})

pub returns-in-2 : goal.returns-in-2
unfolding once_at back_at lines gather
returns-in-2 g c = rw c.in-2.is (record {
  once_is = omega arith;
  back_is = omega arith;
})

last : (g : _) (c : goal.After-line-in_default-4 g) → g.row.K ≡ 3
last g c = omega arith

pub returns-in_default : goal.returns-in_default
unfolding once_at back_at lines gather
returns-in_default g c = rw (last g c) (record {
  once_is = omega arith;
  back_is = omega arith;
})
