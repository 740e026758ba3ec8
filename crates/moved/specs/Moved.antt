-- Where a piece can be added, and what a place gains by its moved rows. No operation that users call cites it. Assumes nothing.
use Rattle.std.specs.Prelude.{◌≡◌, false, ℕ, ◌*◌, List, length}
use Rattle.algebra.specs.Words.{unreduced}
use Rattle.multilinear.specs.declared.Side.{Side}
use Rattle.multilinear.specs.Inner.{skip_of, moved_at}
use Rattle.field.specs.Field.{p, Ext, field, base, from_words}
use Rattle.table.specs.Table.{placed}
use Rattle.point.specs.Points.{coordinates}
use Rattle.moved.specs.declared.Piece.{Piece}

-- an element of out for each place of the piece's table, all reduced
-- A clause: a struct with out as `&mut` would be made for each call, and its fact shown again at each write through it.
-- What is of the piece alone are its ghost fields.
pub record Adds (piece : Piece) (out : List ℕ) : Type 0 where
  pub room : length out ≡ 4 * piece.inner
  pub out_below : unreduced p out ≡ false

-- word t of the piece's table, of which only the piece is there; the others are 0
abbrev pub table_word : Piece → ℕ → ℕ
table_word piece = placed piece.taken piece.words.now

-- what place i gains of the piece by the rows from `skip` on, each by scale·eq of the row `skip` before it
unfoldable pub moved_by : Side → Piece → ℕ → Ext
moved_by side piece i =
    moved_at field side (skip_of piece.weight) piece.inner (coordinates piece.point) (from_words piece.scale)
    (λ t. base (table_word piece t)) i
