-- `dots::halves::Halves::settle` meets its contract: 2^32 times the high half's residue is 2^32 times the high half. Assumes nothing.
use Rattle.std.proofs.Common.{◌∙◌}
use Rattle.dots.proofs.Settling.{settle_law}
use Rattle.dots.proofs.halves.Halves.settle.Goals as goal

pub returns : goal.returns
returns c = rw c.low.ensures at c.residue.ensures ∙ settle_law c.args.self
