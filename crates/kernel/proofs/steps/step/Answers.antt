-- Coordinate by coordinate. Assumes nothing.
use Rattle.kernel.proofs.Weighing.{step_law}
use Rattle.kernel.proofs.steps.step.Goals as goal

pub returns : goal.returns
returns g c =
    step_law _ _ _ c.args.old
    (rw c.products.ensures.value at c.residue.ensures)
    (rw c.products-2.ensures.value at c.residue-2.ensures)
    (rw c.products-3.ensures.value at c.residue-3.ensures)
    (rw c.products-4.ensures.value at c.residue-4.ensures)
