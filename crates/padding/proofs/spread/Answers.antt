-- A place more: its last word times the weight. Assumes nothing.
use Rattle.padding.proofs.Spreading.{word_below, next}
use Rattle.padding.proofs.spread.Goals as goal

pub mul_base-gain-requires : goal.mul_base-gain-requires
mul_base-gain-requires c = (c.requires.weight_is, word_below c.requires c.loop-i-test.true)

pub loop-i-preserved : goal.loop-i-preserved
loop-i-preserved c =
    next c.requires c.loop-i-test.true c.loop-i.invariant c.read.ensures c.mul_base-gain.ensures c.add.ensures c.put.ensures
