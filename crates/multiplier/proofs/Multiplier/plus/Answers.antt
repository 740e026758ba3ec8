-- `multiplier::Multiplier::plus` meets its contract: the product, read as its element, is added. Assumes nothing.
use Rattle.field.proofs.Laws.{read_as}
use Rattle.multiplier.proofs.Multiplier.plus.Goals as goal

pub returns : goal.returns
returns c = rw (read_as _ c.times.ensures) at c.add.ensures
