-- `field::Element::sub` meets its contract. Assumes nothing.
use Rattle.std.proofs.Common.{rules}
use Rattle.field.proofs.Laws.{subtracted}
use Rattle.field.proofs.Element.sub.Goals as goal

pub returns : goal.returns
returns c = subtracted _ _ (search rules) (record { each = search rules })
