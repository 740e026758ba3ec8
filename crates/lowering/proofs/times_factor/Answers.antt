-- `lowering::times_factor` meets its contract: X⁴ times 2³², divided by it, is X⁴. Assumes nothing.
use Rattle.lowering.proofs.Laws.{factor_lowered}
use Rattle.lowering.proofs.times_factor.Goals as goal

pub returns : goal.returns
returns c = rw factor_lowered at c.product.ensures
