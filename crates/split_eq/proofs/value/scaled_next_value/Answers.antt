-- `split_eq::value::scaled_next_value` meets its contract. Assumes nothing.
use Rattle.std.proofs.Common.{arith}
use Rattle.weigh.proofs.Moved.{later}
use Rattle.weigh.proofs.WordTables.{some, word_below}
use Rattle.split_eq.proofs.Scaled.{corner, entry, next_sum}
use Rattle.split_eq.proofs.WorkWeights.{filled}
use Rattle.split_eq.proofs.value.scaled_next_value.Goals as goal

pub bounds-table-n : goal.bounds-table-n
bounds-table-n c = entry c.requires.operands.1 (omega arith)

pub from_base-requires : goal.from_base-requires
from_base-requires c = word_below c.requires.operands.1 _

pub returns-then-n-lt2 : goal.returns-then-n-lt2
returns-then-n-lt2 c = corner _ c.args.point.count _ _ (omega arith) c.from_base.ensures

pub overflow_sub-last : goal.overflow_sub-last
overflow_sub-last c = omega (arith, some c.requires.operands.1)

pub weight-requires : goal.weight-requires
weight-requires c =
    let whole = c.requires.operands.1 in
    (filled _ _ _ _ c.requires.weighed.holds c.args.point.tested, omega (arith, some whole, whole.count))

pub bounds-table-last : goal.bounds-table-last
bounds-table-last c = omega (arith, some c.requires.operands.1)

pub mul_base-own-requires : goal.mul_base-own-requires
mul_base-own-requires c = (c.weight.ensures.below, word_below c.requires.operands.1 _)

pub slice_bounds-weigh-count : goal.slice_bounds-weigh-count
slice_bounds-weigh-count c = omega (arith, some c.requires.operands.1)

pub slice_bounds-weigh-start : goal.slice_bounds-weigh-start
slice_bounds-weigh-start c = omega (arith, some c.requires.operands.1)

pub weigh-requires : goal.weigh-requires
weigh-requires c = (c.requires.operands.0, later c.args.point c.requires.operands.1)

pub returns : goal.returns
returns c =
    next_sum c.args.point c.requires.operands.1 _ c.requires.weighed (omega arith)
    c.weight.ensures c.mul_base-own.ensures c.weigh.ensures c.add.ensures
