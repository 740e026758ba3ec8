-- `field::Element::mul` meets its contract: the coordinates that the lines give are those of the product, by a law. Assumes nothing.
use Rattle.field.proofs.Laws.{mul_law, holds}
use Rattle.field.proofs.Element.mul.Goals as goal

pub returns : goal.returns
returns c =
    holds _
    (rw (
      c.coordinate.ensures,
      c.coordinate-2.ensures,
      c.coordinate-3.ensures,
      c.coordinate-4.ensures,
      c.lines.ensures.once_is,
      c.lines.ensures.back_is,
      c.lines-2.ensures.once_is,
      c.lines-2.ensures.back_is,
      c.lines-3.ensures.once_is,
      c.lines-3.ensures.back_is,
      c.lines-4.ensures.once_is,
      c.lines-4.ensures.back_is,
    ) (mul_law _ _))
