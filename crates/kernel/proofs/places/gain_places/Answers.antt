-- A block of places: the sums over all rows, added to out. Assumes nothing.
use Rattle.std.proofs.Common.{◌*◌, refl, arith}
use Rattle.table.proofs.Gaining.{gained_as}
use Rattle.kernel.specs.Inner.{stride}
use Rattle.kernel.proofs.Placing.{block_rows, cleared, totals_space, block_law}
use Rattle.kernel.proofs.places.gain_places.Goals as goal

pub add_rows-requires-clause-rows : goal.add_rows-requires-clause-rows
add_rows-requires-clause-rows c = block_rows _ _ _ _ _ c.requires.rows refl (omega arith) (omega arith)

pub add_rows-requires-clause-none : goal.add_rows-requires-clause-none
add_rows-requires-clause-none c = cleared (8 * stride)

pub settle-requires-clause-room : goal.settle-requires-clause-room
settle-requires-clause-room c =
    totals_space _ _ _ _ (block_rows _ _ _ _ _ c.requires.rows refl (omega arith) (omega arith)) _ c.add_rows.ensures (omega arith)

pub returns : goal.returns
returns c = gained_as _ c.settle.ensures (λ i h. block_law _ _ _ _ c.requires.rows.fours c.add_rows.ensures h)
