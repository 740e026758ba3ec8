-- `field::Element::add` meets its contract. Assumes nothing.
use Rattle.std.proofs.Common.{rules}
use Rattle.field.proofs.Laws.{added}
use Rattle.field.proofs.Element.add.Goals as goal

pub returns : goal.returns
returns c = added _ _ (search rules) (record { each = search rules })
