-- One sum gains. Assumes nothing.
use Rattle.std.proofs.Common.{arith}
use Rattle.kernel.proofs.Placing.{grown_cell}
use Rattle.kernel.proofs.places.raise.Goals as goal

pub returns : goal.returns
returns c = grown_cell _ _ _ _ _ (omega arith) (omega arith) c.at.ensures c.gain-h.ensures
