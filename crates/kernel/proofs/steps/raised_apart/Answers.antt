-- Each weight is raised, as `raised`. Assumes nothing.
use Rattle.std.proofs.Common.{rules, arith}
use Rattle.field.specs.Field.{field, base, from_words, Reduced, Holds}
use Rattle.field.specs.Inner.{unit}
use Rattle.kernel.proofs.Mapping.{serves_each, mapped}
use Rattle.kernel.proofs.steps.raised_apart.Goals as goal

pub map-requires : goal.map-requires
map-requires g c = (omega arith, (omega arith, (search rules, serves_each Reduced c.requires.weights.below (λ q x b. search rules))))

pub returns : goal.returns
returns g c = record {
  len = search rules;
  each = mapped _ (λ w v. Holds v (field.mul (from_words w) (base unit))) (λ x y p q k. search rules) c.map.ensures.items _ _;
}
