-- Both tables stand at the front of the room. Assumes nothing.
use Rattle.std.proofs.Common.{◌∙◌, refl, sym, arith}
use Rattle.ward.proofs.Halves.{fits, lent}
use Rattle.ward.proofs.shifted.fill_tables.Goals as goal

pub slice_bounds-room-end : goal.slice_bounds-room-end
slice_bounds-room-end c = fits c.requires refl

pub slice_bounds-tables-end : goal.slice_bounds-tables-end
slice_bounds-tables-end c = sym (lent c.requires refl)

pub fill-requires : goal.fill-requires
fill-requires c = (
  c.requires.scale_is,
  record { size = lent c.requires refl ∙ omega (arith, c.requires.room) },
)

pub encode-requires : goal.encode-requires
encode-requires c = omega (arith, c.fill.auto.work ∙ lent c.requires refl, c.requires.room)
