-- What the inner functions take and give. No operation that users call cites it. Assumes nothing.
use Rattle.std.specs.Prelude.{◌≡◌, ◌≢◌, ℕ, ◌+◌, ◌-◌, ◌*◌, ◌≤◌, ◌<◌, List, length, Some, min}
use Rattle.std.specs.Int.{div_ceil}
use Rattle.multilinear.specs.declared.Side.{Side}
use Rattle.multilinear.specs.declared.Side.TheVariants.{Prefix, Suffix}
use Rattle.multilinear.specs.declared.Weight.{Weight}
use Rattle.multilinear.specs.Equality.{eq_at}
use Rattle.multilinear.specs.Successors.{last_row}
use Rattle.multilinear.specs.Inner.{skip_of, own_row, own_at}
use Rattle.field.specs.Field.{Ext, field, base, from_words, Holds}
use Rattle.field.specs.declared.Element.{Element}
use Rattle.table.specs.Table.{element_at}
use Rattle.table.specs.Refusals.{largest}
use Rattle.point.specs.Points.{coordinates}
use Rattle.kernel.specs.Kernel.{weight_at}
use Rattle.moved.specs.declared.Piece.{Piece}
use Rattle.moved.specs.Moved.{table_word}
use Rattle.moved.specs.Weighed.{weight_of}
use Rattle.piece.specs.declared.own.Stand.{Stand}

-- what place i gains of the piece by the row that has a weight of its own
unfoldable pub own_by : Side → Piece → ℕ → Ext
own_by side piece i =
    own_at field side piece.weight piece.inner (coordinates piece.point) (from_words piece.scale) (λ t. base (table_word piece t)) i

-- a row of a table of so many rows of `inner` words
pub record Apart (row rows inner : ℕ) : Type 0 where
  pub there : row < rows
  pub small : rows * inner ≤ largest

-- where the words of the row stand: on the prefix side together, on the suffix side a place's rows apart
abbrev pub apart : Side → ℕ → ℕ → ℕ → Stand
apart Prefix row rows inner = record { start = row * inner; stride = 1 }
apart Suffix row rows inner = record { start = row; stride = rows }

-- words of a row that stand in a table of so many places
pub record Stands (stand : Stand) (inner : ℕ) : Type 0 where
  pub some : 0 < stand.stride
  pub near : stand.stride ≤ largest
  pub within : stand.start + inner * stand.stride ≤ largest + largest

-- the places whose word of the row stands before word t
unfoldable pub reached : Stand → ℕ → ℕ → ℕ
reached stand inner t = min inner (div_ceil (t - stand.start) stand.stride)

-- what place i gains by the row: its word by scale·eq of the last row
unfoldable pub row_by : Stand → Piece → ℕ → Ext
row_by stand piece i =
    field.mul (field.mul (from_words piece.scale) (eq_at field (coordinates piece.point) (last_row field (coordinates piece.point))))
    (base (table_word piece (stand.start + i * stand.stride)))

-- the weights of n rows: what a block's table has `skip` rows before, and at the own row its last element beside that
pub record RowWeights (n : ℕ) (block : List ℕ) (weight : Weight) (weights : List Element) : Type 0 where
  pub len : length weights ≡ n
  pub others : (y : ℕ) → y < n → own_row weight n ≢ Some y → Holds (weight_at weights y) (weight_of block (skip_of weight) y)
  pub own : (y : ℕ) → own_row weight n ≡ Some y
      → Holds (weight_at weights y) (field.add (weight_of block (skip_of weight) y) (element_at block (n - 1)))
