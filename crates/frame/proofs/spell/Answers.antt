-- The two digits of byte i stand in the line, and spell it. Assumes nothing.
use Rattle.frame.proofs.Spelling.{turn, end, high, low}
use Rattle.frame.proofs.spell.Goals as goal

pub digit-requires : goal.digit-requires
digit-requires c = high c.requires c.loop-i-test.true

pub digit-requires-in-loop-i : goal.digit-requires-in-loop-i
digit-requires-in-loop-i c = low c.requires c.loop-i-test.true

pub loop-i-preserved : goal.loop-i-preserved
loop-i-preserved c = turn c.requires c.loop-i.invariant c.loop-i-test.true c.digit.ensures.0 c.digit-in-loop-i.ensures.0

pub returns : goal.returns
returns c = end c.requires c.loop-i.invariant c.loop-i-test.false
