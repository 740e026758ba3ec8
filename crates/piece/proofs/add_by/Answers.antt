-- All rows, as `add` has them. Assumes nothing.
use Rattle.piece.proofs.Adding.{as_table}
use Rattle.piece.proofs.add_by.Goals as goal

pub returns : goal.returns
returns g c =
    let e = c.piece_of-piece.ensures in
    as_table c.piece_of-piece.result c.requires.takes e.point e.weight e.scale e.inner e.taken e.words c.add_by.ensures c.add_own.ensures
