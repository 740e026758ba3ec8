-- `fixing::parts::fix_few` meets its contract: the pair that a turn reads is at or past the entry that it writes. Assumes nothing.
use Rattle.std.proofs.Common.{arith}
use Rattle.field.specs.Field.{from_words}
use Rattle.fixing.proofs.Making.{turn}
use Rattle.fixing.proofs.Halving.{both_reduced, one_made}
use Rattle.fixing.proofs.parts.fix_few.Goals as goal

pub taken-taken-requires : goal.taken-taken-requires
taken-taken-requires g c =
    both_reduced g.S.Step.rule _ _ c.requires c.loop-i.invariant c.loop-i-test.true c.pair-first.ensures c.get-a0.ensures c.get.ensures

pub plus-requires : goal.plus-requires
plus-requires g c =
    let two = both_reduced g.S.Step.rule _ _ c.requires c.loop-i.invariant c.loop-i-test.true c.pair-first.ensures c.get-a0.ensures c.get.ensures in
    (c.taken-taken.ensures.below, two.0)

pub loop-i-preserved : goal.loop-i-preserved
loop-i-preserved g c =
    turn c.loop-i.invariant (omega arith) (omega (arith, c.requires.table.count, c.loop-i-test.true))
    (one_made g.S.Step.rule _ _ c.requires c.loop-i.invariant c.loop-i-test.true c.pair-first.ensures c.get-a0.ensures c.get.ensures
    g.met.S.Step.makes (from_words c.args.m.r) c.taken-taken.ensures c.plus.ensures)
    c.put.ensures
