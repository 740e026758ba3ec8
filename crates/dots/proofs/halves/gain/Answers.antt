-- `dots::halves::gain` meets its contract. Assumes nothing.
use Rattle.std.proofs.Common.{rules, get_or}
use Rattle.dots.specs.Inner.{Grown, at}
use Rattle.field.proofs.Mapping.{each_given}
use Rattle.dots.proofs.halves.gain.Goals as goal

pub returns : goal.returns
returns g c = record {
  each = each_given _ (λ k h. Grown (at c.args.sums k) (get_or c.args.gains k 0) h) _ _ (λ i y q l j. search rules) _
      c.from_fn.ensures.items;
}
