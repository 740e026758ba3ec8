-- Coordinate by coordinate. Assumes nothing.
use Rattle.field.proofs.Laws.{holds, add_law}
use Rattle.kernel.proofs.steps.gained.Goals as goal

pub returns : goal.returns
returns c = holds _ (rw (c.gained.ensures, c.gained-2.ensures, c.gained-3.ensures, c.gained-4.ensures) (add_law c.args.old c.args.gain))
