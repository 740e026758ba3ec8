-- A plan's coordinates, and its table. Assumes nothing.
use Rattle.plan.proofs.Columns.{row_sizes}
use Rattle.piece.proofs.Adding.{in_table}
use Rattle.piece.proofs.piece_of.Goals as goal

pub width-requires : goal.width-requires
width-requires c = row_sizes c.requires.sound

pub invariant_of-result : goal.invariant_of-result
invariant_of-result c = record {
  fits = rw c.point.ensures.count (in_table c.requires.sound c.width.ensures c.requires.within);
  scale_is = c.requires.sound.scale_is;
  below = c.requires.below;
}
