-- The sums of the rows taken together, and each place's. Assumes nothing.
use Rattle.std.proofs.Common.{◌*◌, ◌/◌, length, arith}
use Rattle.std.proofs.lemmas.List.{take-replicate}
use Rattle.short_rows.proofs.Summing.{room, sums_scatter, rows_there, scattered}
use Rattle.short_rows.proofs.by_sums.Goals as goal

pub whole_as_front-sums : goal.whole_as_front-sums
whole_as_front-sums g c = (
  room c.requires.rows c.requires.late.0 c.requires.late.1 c.rows.ensures c.requires.room.0,
  omega (arith, c.requires.room.1),
)

pub scatter-requires : goal.scatter-requires
scatter-requires g c =
    sums_scatter c.requires.rows c.requires.late.0 c.requires.late.1 c.rows.ensures c.first.result c.first.ensures.count
    (take-replicate (4 * (c.rows.result * (length c.args.out.now / 4))) g.row.WORDS 0
    (room c.requires.rows c.requires.late.0 c.requires.late.1 c.rows.ensures c.requires.room.0))

pub add_rows-requires : goal.add_rows-requires
add_rows-requires g c =
    rows_there c.requires.rows c.requires.late.0 c.requires.late.1 c.rows.ensures c.first.result c.first.ensures.count
    (take-replicate (4 * (c.rows.result * (length c.args.out.now / 4))) g.row.WORDS 0
    (room c.requires.rows c.requires.late.0 c.requires.late.1 c.rows.ensures c.requires.room.0))
    c.scatter.ensures c.after.result c.after.ensures.count

pub returns : goal.returns
returns g c =
    scattered c.requires.rows c.requires.late.0 c.requires.late.1 c.rows.ensures c.first.result c.first.ensures.count
    (take-replicate (4 * (c.rows.result * (length c.args.out.now / 4))) g.row.WORDS 0
    (room c.requires.rows c.requires.late.0 c.requires.late.1 c.rows.ensures c.requires.room.0))
    c.scatter.ensures c.after.result c.after.ensures.count c.first.ensures.words c.after.ensures.words c.add_rows.ensures
