-- One word's digits more. Assumes nothing.
use Rattle.frame.proofs.Printing.{start, turn}
use Rattle.frame.proofs.digits.Goals as goal

pub loop-i-init : goal.loop-i-init
loop-i-init c = start _ _

pub loop-i-preserved : goal.loop-i-preserved
loop-i-preserved c = turn c.requires c.loop-i.invariant c.loop-i-test.true c.put_word.ensures
