-- Coordinates from j on give the product, and the power for the one before j: `Selecting`. Assumes nothing.
use Rattle.point.proofs.Selecting.{Selecting}
use Rattle.point.proofs.select.selection.Given as goal

abbrev pub invariant-loop-j : goal.invariant-loop-j
invariant-loop-j l = Selecting l.fn.var l.point.words.now l.point.count l.j l.product l.power
