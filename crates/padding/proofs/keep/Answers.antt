-- A row has a word for each place. Assumes nothing.
use Rattle.plan.proofs.Columns.{some_width, row_sizes}
use Rattle.padding.proofs.keep.Goals as goal

pub width-requires : goal.width-requires
width-requires c = row_sizes c.requires.sound

pub keep_row-requires : goal.keep_row-requires
keep_row-requires c = rw c.width.ensures (record { some = some_width c.requires.sound; room = c.requires.last_room })
