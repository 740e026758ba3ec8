-- An element doubled more. Assumes nothing.
use mathlib.Core.Path.{refl}
use Rattle.point.proofs.Doubling.{turn}
use Rattle.point.proofs.equality.double.Goals as goal

pub loop-i-preserved : goal.loop-i-preserved
loop-i-preserved c =
    turn _ _ _ _ _ c.loop-i.invariant c.loop-i-test.true c.requires.room _ _ _ refl
    c.get-v.ensures c.times-high.ensures c.sub-low.ensures c.put.ensures c.put-in-loop-i.ensures
