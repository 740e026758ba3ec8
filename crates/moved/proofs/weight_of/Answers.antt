-- The test of the row. Assumes nothing.
use borrow.Author.Tests.{lt-ltb, le-ltb}
use Rattle.moved.specs.Weighed.{weight_of}
use Rattle.moved.proofs.weight_of.Goals as goal

pub returns-then-y-skip : goal.returns-then-y-skip
unfolding weight_of
returns-then-y-skip c = rw (lt-ltb _ _ c.if-y-skip.true) c.zero.ensures

pub returns : goal.returns
unfolding weight_of
returns c = rw (le-ltb _ _ c.if-y-skip.false) c.read.ensures
