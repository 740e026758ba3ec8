-- The sums of the blocks of scale·eq. Assumes nothing.
use Rattle.std.proofs.Common.{rules}
use Rattle.weigh.proofs.Weighing.{words_fit, weighed_words}
use Rattle.weigh.proofs.weigh_by.Goals as goal

pub part-requires : goal.part-requires
part-requires g c = (search rules, words_fit _ c.requires.1 c.of.ensures c.requires.0.1)

pub returns : goal.returns
returns g c = weighed_words _ c.requires.1 c.of.ensures c.block_of-table.ensures _ c.part.ensures
