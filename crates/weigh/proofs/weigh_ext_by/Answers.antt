-- The sums of the blocks of scale·eq. Assumes nothing.
use Rattle.std.proofs.Common.{rules}
use Rattle.weigh.proofs.Weighing.{entries_whole, weighed_elements}
use Rattle.weigh.proofs.weigh_ext_by.Goals as goal

pub halves_ext-requires : goal.halves_ext-requires
halves_ext-requires g c = (search rules, entries_whole _ c.requires.1 c.of.ensures c.requires.0.1)

pub returns : goal.returns
returns g c = weighed_elements _ c.requires.1 c.of.ensures c.block_of-table.ensures _ c.halves_ext.ensures
