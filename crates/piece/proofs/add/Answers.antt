-- All rows, those that are moved on and the own row. Assumes nothing.
use Rattle.piece.proofs.Adding.{as_table}
use Rattle.piece.proofs.add.Goals as goal

pub returns : goal.returns
returns c =
    let e = c.piece_of-piece.ensures in
    as_table c.piece_of-piece.result c.requires e.point e.weight e.scale e.inner e.taken e.words c.add.ensures c.add_own.ensures
