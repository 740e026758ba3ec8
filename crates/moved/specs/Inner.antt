-- What the inner functions take and give. No operation that users call cites it. Assumes nothing.
use Rattle.std.specs.Prelude.{◌≡◌, ℕ, ◌+◌, ◌-◌, ◌*◌, ◌^◌, ◌≤◌, ◌<◌, List, min, length}
use Rattle.multilinear.specs.declared.Side.TheVariants.{Suffix}
use Rattle.table.specs.Table.{placed}
use Rattle.table.specs.Gained.{Gained}
use Rattle.weigh.specs.Weigh.{InArray}
use Rattle.weigh.specs.declared.blocks.Piece.{Piece as Words}
use Rattle.moved.specs.declared.Piece.{Piece}
use Rattle.moved.specs.Moved.{table_word, moved_by}

-- the table of a piece's last `low` coordinates, at least two where the point has two, in an array of so many words
pub record Served (piece : Piece) (low words : ℕ) : Type 0 where
  pub low_fits : low ≤ piece.point.count
  pub enough : min piece.point.count 2 ≤ low
  pub in_array : InArray low words

-- places that are there, none of them before the one that the piece starts in
pub record Reached (piece : Piece) (from to : ℕ) : Type 0 where
  pub order : from ≤ to
  pub begun : piece.taken ≤ from * 2 ^ piece.point.count + 2 ^ piece.point.count
  pub there : to ≤ piece.inner

-- places that have all their words in the piece
pub record Wholes (piece : Piece) (from to : ℕ) : Type 0 where
  pub order : from ≤ to
  pub begun : piece.taken ≤ from * 2 ^ piece.point.count
  pub ended : to * 2 ^ piece.point.count ≤ piece.taken + length piece.words.now

-- each place from `from` to before `to` gained what it has of the piece
abbrev pub GainedIn : Piece → ℕ → ℕ → List ℕ → List ℕ → Type 0
GainedIn piece from to ws w = Gained from (to - from) (λ y. moved_by Suffix piece (from + y)) ws w

-- the words of a piece from word `start` to before word `stop` of the table, at the rows from `start` on
pub record Cuts (piece : Piece) (start stop : ℕ) (cut : Words) : Type 0 where
  pub fits : cut.from + length cut.words.now ≤ stop - start
  pub each : (y : ℕ) → start + y < stop → placed cut.from cut.words.now y ≡ table_word piece (start + y)
