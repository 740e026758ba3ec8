-- The table of the rows' weights times 2⁶⁴, and the rows by it. Assumes nothing.
use Rattle.scatter.proofs.LongRows.{tabled, long_gained}
use Rattle.scatter.proofs.long_rows.Goals as goal

pub gain_table-requires : goal.gain_table-requires
gain_table-requires c =
    tabled c.args.rest c.args.weight _ _ c.raise.ensures c.raise-raised.ensures _ c.fill.ensures c.requires.some.0 c.requires.some.1
    c.requires.rows.0 c.requires.rows.1

pub returns : goal.returns
returns c =
    long_gained c.args.rest c.args.weight _ _ c.raise.ensures c.raise-raised.ensures _ c.fill.ensures c.gain_table.ensures
