-- `work::weight` meets its contract. Assumes nothing.
use Rattle.work.proofs.Weights.{high_place, weight_of}
use Rattle.work.proofs.weight.Goals as goal

pub read-requires : goal.read-requires
read-requires c = (high_place _ c.tables.ensures c.args.y c.requires.1, c.tables.ensures.first_below)

pub returns : goal.returns
returns c = weight_of _ c.tables.ensures c.args.y c.requires.1 c.read.ensures c.read-2.ensures c.mul.ensures
