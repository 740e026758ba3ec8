-- Pieces of a table, and their values at the coordinates that they are summed against. No operation that users call cites it. Assumes
-- nothing.
use Rattle.std.specs.Prelude.{◌≡◌, ℕ, ◌+◌, ◌-◌, ◌*◌, ◌%◌, ◌^◌, ◌≤◌, ◌<◌, List, length, take}
use Rattle.multilinear.specs.Values.{value_at}
use Rattle.field.specs.Field.{Ext, field, base}
use Rattle.table.specs.Table.{element_at, placed}
use Rattle.table.proofs.Parts.{after as words_after}
use Rattle.point.specs.declared.Point.{Point}
use Rattle.point.specs.Points.{coordinates}
use Rattle.weigh.specs.declared.blocks.Piece.{Piece}
use Rattle.weigh.specs.declared.blocks.SplitPoint.{SplitPoint}
use Rattle.weigh.specs.Entries.{WholeTable}
use Rattle.weigh.specs.Weigh.{Rest, block_sum}

-- the rows end with, or after, the piece's words
-- A clause: at each halving one split point, which is lent, goes on with two pieces, and a struct of both would be made for each.
abbrev pub Fits : {size : ℕ} → SplitPoint size → Piece → Type 0
Fits a piece = piece.from + length piece.words.now ≤ 2 ^ (a.high.count + a.low)

-- the words are in one part of 2^n rows
abbrev pub Together : ℕ → Piece → Type 0
Together n piece = piece.from % 2 ^ n + length piece.words.now ≤ 2 ^ n

-- the words, of which there are some, are in one part that has the last `own` high coordinates
pub record InRow (own : ℕ) {size : ℕ} (a : SplitPoint size) (piece : Piece) : Type 0 where
  pub own_fits : own ≤ a.high.count
  pub some : 0 < length piece.words.now
  pub together : Together (own + a.low) piece

-- what is left after the first k of the high coordinates
pub record After (k : ℕ) {size : ℕ} (a rest : SplitPoint size) : Type 0 where
  pub high : Rest k a.high rest.high
  pub low : rest.low ≡ a.low
  pub block : rest.block.table.now ≡ a.block.table.now

-- a point's coordinates, the last k of them by a block's table
pub record Cut (point : Point) (k : ℕ) (ws : List ℕ) {size : ℕ} (a : SplitPoint size) : Type 0 where
  pub words : a.high.words.now ≡ point.words.now
  pub count : a.high.count ≡ point.count - k
  pub low : a.low ≡ k
  pub block : a.block.table.now ≡ ws

-- the word of a row
abbrev pub word_of : Piece → ℕ → ℕ
word_of piece = placed piece.from piece.words.now

-- a piece of the first `half` rows, and one of the rows after them
pub record Halves (half : ℕ) (piece low high : Piece) : Type 0 where
  pub low_fits : low.from + length low.words.now ≤ half
  pub high_fits : high.from + length high.words.now ≡ piece.from + length piece.words.now - half
  pub low_is : (y : ℕ) → y < half → word_of low y ≡ word_of piece y
  pub high_is : (y : ℕ) → word_of high y ≡ word_of piece (half + y)

-- what is left after the first of the high coordinates, and the words of both halves
pub record Halved {size : ℕ} (a : SplitPoint size) (piece : Piece) (rest : SplitPoint size) (low high : Piece) : Type 0 where
  pub after : After 1 a rest
  pub falls : rest.high.count < a.high.count
  pub halves : Halves (2 ^ (a.high.count - 1 + a.low)) piece low high
  pub low_fits : Fits rest low
  pub high_fits : Fits rest high

-- the same of a table of elements
pub record HalvedTable {size : ℕ} (a : SplitPoint size) (ws : List ℕ) (rest : SplitPoint size) (low high : List ℕ) : Type 0 where
  pub after : After 1 a rest
  pub falls : rest.high.count < a.high.count
  pub low_is : low ≡ take (4 * 2 ^ (a.high.count - 1 + a.low)) ws
  pub high_is : high ≡ words_after (4 * 2 ^ (a.high.count - 1 + a.low)) ws
  pub low_whole : WholeTable 4 (rest.high.count + rest.low) low
  pub high_whole : WholeTable 4 (rest.high.count + rest.low) high

-- the value of rows f, at the high coordinates, of the sums of the blocks
abbrev pub blocks_value : {size : ℕ} → SplitPoint size → (ℕ → Ext) → Ext
blocks_value a f = value_at field (coordinates a.high) (block_sum a.low a.block.table.now f)

abbrev pub part_value : {size : ℕ} → SplitPoint size → Piece → Ext
part_value a piece = blocks_value a (λ y. base (word_of piece y))

-- the same of a table of elements
abbrev pub part_value_ext : {size : ℕ} → SplitPoint size → List ℕ → Ext
part_value_ext a ws = blocks_value a (element_at ws)
