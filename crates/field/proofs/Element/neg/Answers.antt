-- `field::Element::neg` meets its contract. Assumes nothing.
use Rattle.std.proofs.Common.{rules}
use Rattle.field.proofs.Laws.{negated}
use Rattle.field.proofs.Element.neg.Goals as goal

pub returns : goal.returns
returns c = negated _ (search rules) (record { each = search rules })
