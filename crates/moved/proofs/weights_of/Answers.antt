-- Each row's weight is what the call for it gave. Assumes nothing.
use Rattle.std.proofs.Common.{rules}
use Rattle.field.specs.Field.{Holds}
use Rattle.moved.specs.Weighed.{weight_of}
use Rattle.field.proofs.Mapping.{each_given}
use Rattle.moved.proofs.weights_of.Goals as goal

pub returns : goal.returns
returns g c = record {
  len = search rules;
  each = each_given _ (λ y w. Holds w (weight_of c.args.block.now c.args.skip y)) _ _ (λ i y q l j. search rules) _ c.from_fn.ensures.items;
}
