-- `field::Element::map` meets its contract. Assumes nothing.
use Rattle.std.proofs.Common.{rules}
use Rattle.field.proofs.Laws.{word_below}
use Rattle.field.proofs.Mapping.{serves_index}
use Rattle.field.proofs.Element.map.Goals as goal

pub from_fn-requires : goal.from_fn-requires
from_fn-requires g c = (
  search rules,
  serves_index (λ x q r. search rules) (λ x lt. (lt, c.requires.callable _ (word_below c.requires.below x))),
)
