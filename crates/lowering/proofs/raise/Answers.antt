-- `lowering::raise` meets its contract: 2⁶⁴ divided by 2³² is 2³². Assumes nothing.
use Rattle.lowering.proofs.Laws.{square_lowered}
use Rattle.lowering.proofs.raise.Goals as goal

pub returns : goal.returns
returns c = rw square_lowered at c.product.ensures
