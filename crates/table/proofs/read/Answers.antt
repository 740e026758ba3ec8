-- `table::read` meets its contract. Assumes nothing.
use Rattle.table.proofs.Tests.{holds_at}
use Rattle.table.proofs.read.Goals as goal

pub returns : goal.returns
returns c = holds_at _ c.requires.1 _ c.get.ensures
