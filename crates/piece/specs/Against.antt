-- What the places of a plan's pieces are summed against. No operation that users call cites it. Assumes nothing.
use Rattle.std.specs.Prelude.{◌≡◌, ℕ, ◌-◌, ◌≤◌, min}
use Rattle.field.specs.Field.{from_words}
use Rattle.weigh.specs.declared.blocks.SplitPoint.{SplitPoint}
use Rattle.weigh.specs.Weigh.{Block}
use Rattle.plan.specs.declared.Plan.{Plan}

-- a plan's coordinates, the last ones, two if there are as many, by the table of a block
pub record Against (plan : Plan) {size : ℕ} (split : SplitPoint size) : Type 0 where
  pub words : split.high.words.now ≡ plan.coordinates
  pub count : split.high.count ≡ plan.k - split.low
  pub low_fits : split.low ≤ plan.k
  pub enough : min plan.k 2 ≤ split.low
  pub block_is : Block (plan.k - split.low) split.low plan.coordinates (from_words plan.scale) split.block.table.now
