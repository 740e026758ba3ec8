-- By rows and by groups. Assumes nothing.
use Rattle.std.proofs.Common.{arith}
use Rattle.piece.proofs.FewRows.{grouped, row_weights, rows_fold, groups_fold}
use Rattle.piece.proofs.few_rows.by_weights.Goals as goal

pub set_rows-requires : goal.set_rows-requires
set_rows-requires g c =
    (omega (arith, c.requires.few), (grouped c.requires.fills c.requires.rows, row_weights c.weights_of-weights.ensures c.requires.few.1))

pub set_groups-requires : goal.set_groups-requires
set_groups-requires g c =
    (omega (arith, c.requires.few), (grouped c.requires.fills c.requires.rows, row_weights c.weights_of-weights.ensures c.requires.few.1))

pub returns-in-Prefix : goal.returns-in-Prefix
returns-in-Prefix g c =
    rows_fold c.requires.fills c.requires.rows (omega (arith, c.requires.few)) c.weights_of-weights.ensures
    (rw (c.point.ensures.words, c.point.ensures.count) at c.block_of-block.ensures) c.in-Prefix.is c.set_rows.ensures

pub returns-in-Suffix : goal.returns-in-Suffix
returns-in-Suffix g c =
    groups_fold c.requires.fills c.requires.rows (omega (arith, c.requires.few)) c.weights_of-weights.ensures
    (rw (c.point.ensures.words, c.point.ensures.count) at c.block_of-block.ensures) c.in-Suffix.is c.set_groups.ensures
