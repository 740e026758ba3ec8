-- A coordinate more, in front, and the power squared. Assumes nothing.
use Rattle.point.proofs.Selecting.{start, turn}
use Rattle.point.proofs.select.selection.Goals as goal

pub loop-j-init : goal.loop-j-init
loop-j-init c = start _ _ _ c.requires c.one-product.ensures

pub loop-j-preserved : goal.loop-j-preserved
loop-j-preserved c =
    turn _ _ _ _ c.loop-j.invariant c.loop-j-test.true c.read.ensures c.select_factor-f.ensures c.mul-product.ensures c.mul-power.ensures
