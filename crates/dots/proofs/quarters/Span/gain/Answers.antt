-- `Span::gain` meets its contract. Assumes nothing.
use Rattle.std.proofs.Common.{◌+◌, ◌*◌, arith}
use Rattle.dots.proofs.Columns.{apart_none, apart_more}
use Rattle.dots.proofs.Spanning.{both_below}
use Rattle.dots.proofs.quarters.Span.gain.Goals as goal

pub loop-t-init : goal.loop-t-init
loop-t-init g c = record { sum_is = apart_none _ _ _; fits = omega arith }

pub product-sum-requires : goal.product-sum-requires
product-sum-requires g c =
    both_below c.args.self.spans c.args.k (c.args.i + c.args.q * c.loop-t.t) c.requires.few.1 (c.requires.there.each c.loop-t.t c.loop-t-test.true)

pub loop-t-preserved : goal.loop-t-preserved
loop-t-preserved g c = record {
  sum_is = apart_more _ _ _ _ c.loop-t.invariant.sum_is c.product-sum.ensures.0;
  fits = omega (arith, c.product-sum.ensures.1, c.loop-t.invariant.fits);
}
