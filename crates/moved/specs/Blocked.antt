-- What a piece's places are summed against. No operation that users call cites it. Assumes nothing.
use Rattle.std.specs.Prelude.{◌≡◌, ℕ, ◌-◌, ◌≤◌, min}
use Rattle.field.specs.Field.{from_words}
use Rattle.weigh.specs.declared.blocks.SplitPoint.{SplitPoint}
use Rattle.weigh.specs.Weigh.{Block}
use Rattle.moved.specs.declared.Piece.{Piece}

-- a piece's coordinates, the last ones, two if there are as many, by the table of a block
pub record Blocked (piece : Piece) {size : ℕ} (split : SplitPoint size) : Type 0 where
  pub words : split.high.words.now ≡ piece.point.words.now
  pub count : split.high.count ≡ piece.point.count - split.low
  pub low_fits : split.low ≤ piece.point.count
  pub enough : min piece.point.count 2 ≤ split.low
  pub block_is : Block (piece.point.count - split.low) split.low piece.point.words.now (from_words piece.scale) split.block.table.now
