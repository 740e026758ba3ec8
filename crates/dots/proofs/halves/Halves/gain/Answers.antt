-- `dots::halves::Halves::gain` meets its contract. Assumes nothing.
use Rattle.std.proofs.Common.{arith}
use Rattle.dots.proofs.Wrapping.{grown}
use Rattle.dots.proofs.halves.Halves.gain.Goals as goal

pub returns : goal.returns
returns c = grown _ _ (omega arith) c.requires
