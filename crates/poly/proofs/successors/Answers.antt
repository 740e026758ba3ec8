-- The equality table, each weight a row further. Assumes nothing.
use Rattle.poly.proofs.Next.{rows, weights, successors_table}
use Rattle.poly.proofs.successors.Goals as goal

pub fill-requires : goal.fill-requires
fill-requires c = (c.one.ensures.below, c.requires.rows)

pub succeed-requires : goal.succeed-requires
succeed-requires c =
    record { weights = weights _ _ c.fill.ensures; own = rw (rows _ _ c.fill.ensures) c.requires.own }

pub returns : goal.returns
returns c = successors_table _ _ _ _ _ _ c.one.ensures c.fill.ensures (rows _ _ c.fill.ensures) c.succeed.ensures
