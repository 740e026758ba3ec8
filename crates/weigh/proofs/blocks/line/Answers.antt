-- `weigh::blocks::line` meets its contract. Assumes nothing.
use Rattle.field.proofs.Laws.{read_as}
use Rattle.weigh.proofs.blocks.line.Goals as goal

pub returns : goal.returns
returns c = rw (read_as _ c.mul.ensures, read_as _ c.sub.ensures) at c.add.ensures
