-- `multiplier::plus_by` meets its contract: the four rows are the sum with the product. Assumes nothing.
use Rattle.field.proofs.Laws.{holds}
use Rattle.multiplier.proofs.Rows.{added_rows}
use Rattle.multiplier.proofs.plus_by.Goals as goal

pub returns : goal.returns
returns c =
    holds _
    (rw (
      c.added.ensures,
      c.added-2.ensures,
      c.added-3.ensures,
      c.added-4.ensures,
      c.lines.ensures.once_is,
      c.lines.ensures.back_is,
      c.lines-2.ensures.once_is,
      c.lines-2.ensures.back_is,
      c.lines-3.ensures.once_is,
      c.lines-3.ensures.back_is,
      c.lines-4.ensures.once_is,
      c.lines-4.ensures.back_is,
    ) (added_rows _ _ _ c.requires.1))
