-- `field::Element::from_base` meets its contract. Assumes nothing.
use Rattle.field.proofs.Laws.{holds, base_law}
use Rattle.field.proofs.Element.from_base.Goals as goal

pub returns : goal.returns
returns c = holds _ (base_law _ c.requires)
