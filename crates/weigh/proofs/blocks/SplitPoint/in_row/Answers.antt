-- The words in their own part, and eq of its row. Assumes nothing.
use Rattle.std.proofs.Common.{rules}
use Rattle.weigh.proofs.OneRow.{own_fits, in_row}
use Rattle.weigh.proofs.blocks.SplitPoint.in_row.Goals as goal

pub halves-requires : goal.halves-requires
halves-requires g c =
    (search rules, own_fits c.args.self.now c.args.piece c.requires.0 c.requires.1 c.rows-rows.ensures c.after.ensures)

pub returns : goal.returns
returns g c =
    in_row c.args.self.now c.args.piece c.requires.0 c.requires.1 c.rows-rows.ensures c.after.ensures
    (rw (c.first.ensures.words, c.first.ensures.count) at c.at_row-eq.ensures) c.halves.ensures c.mul.ensures
