-- The four rows' weights. Assumes nothing.
use Rattle.table.proofs.Gaining.{gained_as}
use Rattle.scatter.proofs.WholeRows.{four_rows_lem}
use Rattle.scatter.proofs.four_rows.Goals as goal

pub returns : goal.returns
returns c =
    gained_as _ c.gain_rows.ensures (λ y h.
    four_rows_lem c.args.weight c.args.rest c.args.words.now _ c.read.ensures c.mul-high.ensures c.sub-low.ensures c.read-z.ensures
    c.mul-w1.ensures c.mul-w3.ensures c.sub.ensures c.sub-2.ensures c.requires.two.0 y)
