-- `dots::halves::Halves::lowered` meets its contract. Assumes nothing.
use Rattle.std.proofs.Common.{◌∙◌}
use Rattle.dots.proofs.Settling.{lowered_law}
use Rattle.dots.proofs.halves.Halves.lowered.Goals as goal

pub returns : goal.returns
returns c = rw (c.lower.ensures, c.low.ensures) at c.lower-2.ensures ∙ lowered_law c.args.self
