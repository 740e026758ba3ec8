-- The last row's own part, and the rows that come later. Assumes nothing.
use Rattle.weigh.proofs.Moved.{later}
use Rattle.weigh.proofs.WordTables.{word_below}
use Rattle.poly.proofs.NextValue.{own_sum}
use Rattle.poly.proofs.value.successor_value.Goals as goal

pub mul_base-gained-requires : goal.mul_base-gained-requires
mul_base-gained-requires c = (c.at_row.ensures.below, word_below c.requires.whole _)

pub weigh-requires : goal.weigh-requires
weigh-requires c = (c.one.ensures.below, later c.args.point c.requires.whole)

pub returns : goal.returns
returns c =
    own_sum c.args.point c.requires.whole _ c.args.own c.at_row.ensures c.mul_base-gained.ensures c.one.ensures c.weigh.ensures c.add.ensures
