-- `field::Element::mul_base` meets its contract. Assumes nothing.
use Rattle.std.proofs.Common.{rules}
use Rattle.field.proofs.Laws.{scaled}
use Rattle.field.proofs.Element.mul_base.Goals as goal

pub returns : goal.returns
returns c = scaled _ _ (search rules) (record { each = search rules })
