-- One product more. Assumes nothing.
use Rattle.std.proofs.Common.{arith, add-one}
use Rattle.std.proofs.lemmas.List.Elements.{All-get_or}
use Rattle.field.specs.Field.{Reduced}
use Rattle.field.proofs.Laws.{word_below}
use Rattle.kernel.specs.Inner.{products}
use Rattle.kernel.proofs.steps.products.Goals as goal

pub loop-t-init : goal.loop-t-init
unfolding products
loop-t-init g c = record { value = omega arith; few = omega arith }

pub wide-sum-requires : goal.wide-sum-requires
wide-sum-requires g c = (word_below (All-get_or Reduced _ _ _ (omega arith) c.requires.weights.below) c.args.k, c.requires.words.below _)

pub loop-t-preserved : goal.loop-t-preserved
unfolding products
loop-t-preserved g c = record { value = rw (c.wide-sum.ensures.0, c.loop-t.invariant.value, add-one) (omega arith); few = omega arith }
