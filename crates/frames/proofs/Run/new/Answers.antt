-- Nothing was read, out and the last words are 0, and nothing is gathered. Assumes nothing.
use Rattle.std.proofs.Common.{refl}
use Rattle.frames.proofs.Starting.{first_gathers, first_seen}
use Rattle.frames.proofs.Run.new.Goals as goal

pub returns : goal.returns
returns c = first_seen c.started.ensures refl refl c.new.ensures

pub invariant_of-result : goal.invariant_of-result
invariant_of-result c = first_gathers c.started.ensures refl refl c.new.ensures
