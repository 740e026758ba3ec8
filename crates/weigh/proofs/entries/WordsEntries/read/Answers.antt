-- The word that `Words` reads is below p. Assumes nothing.
use Rattle.algebra.proofs.Words.{below}
use Rattle.field.specs.Field.{p, p_pos}
use Rattle.weigh.proofs.entries.WordsEntries.read.Goals as goal

pub from_base-requires : goal.from_base-requires
from_base-requires c = below p _ c.requires.below p_pos _
