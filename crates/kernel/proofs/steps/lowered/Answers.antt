-- Coordinate by coordinate. Assumes nothing.
use Rattle.kernel.proofs.Weighing.{lowered_law}
use Rattle.kernel.proofs.steps.lowered.Goals as goal

pub returns : goal.returns
returns g c =
    lowered_law _ _ _
    (rw c.products.ensures.value at c.lower.ensures)
    (rw c.products-2.ensures.value at c.lower-2.ensures)
    (rw c.products-3.ensures.value at c.lower-3.ensures)
    (rw c.products-4.ensures.value at c.lower-4.ensures)
