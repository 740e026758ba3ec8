-- Coordinate by coordinate. Assumes nothing.
use Rattle.kernel.proofs.Placing.{brought_law}
use Rattle.kernel.proofs.places.lowered.Goals as goal

pub returns : goal.returns
returns c =
    brought_law _ _
    (rw c.at.ensures at c.lowered.ensures)
    (rw c.at-2.ensures at c.lowered-2.ensures)
    (rw c.at-3.ensures at c.lowered-3.ensures)
    (rw c.at-4.ensures at c.lowered-4.ensures)
