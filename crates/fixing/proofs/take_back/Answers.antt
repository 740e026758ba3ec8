-- `fixing::take_back` meets its contract: by the pair of each entry. Assumes nothing.
use Rattle.std.proofs.Common.{rules}
use Rattle.algebra.specs.Ring.{minus}
use Rattle.field.specs.Field.{field}
use Rattle.fixing.proofs.Combining.{pairs_by}
use Rattle.fixing.proofs.take_back.Goals as goal

pub returns : goal.returns
returns c = pairs_by _ (minus field) (λ y j p. search rules) (λ a b e m. search rules) c.combine.ensures
