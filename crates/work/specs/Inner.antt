-- What the inner functions take and give. No operation that users call cites it. Assumes nothing.
use Rattle.std.specs.Prelude.{◌≡◌, false, ℕ, ◌+◌, ◌*◌, ◌/◌, ◌%◌, ◌^◌, ◌≤◌, ◌<◌, List, length}
use Rattle.algebra.specs.Words.{unreduced}
use Rattle.field.specs.Field.{p, Ext, field}
use Rattle.table.specs.Table.{element_at, table_words}
use Rattle.table.specs.Refusals.{most}
use Rattle.work.specs.Work.{first, others}

-- work has just both tables' words
pub record BothTables (k : ℕ) (work : List ℕ) : Type 0 where
  pub size : length work ≡ 4 * (2 ^ first k + 2 ^ others k)

-- work holds two tables of k coordinates, all reduced. A clause and no type: callers keep the buffer whole, as `fill` leaves it, and hand it
-- on as they got it.
pub record Tables (k : ℕ) (work : List ℕ) : Type 0 where
  pub few : k ≤ most
  pub size : length work ≡ 4 * (2 ^ first k + 2 ^ others k)
  pub below : unreduced p work ≡ false

-- the two tables of work, apart
pub record Apart (k : ℕ) (work eq0 eq1 : List ℕ) : Type 0 where
  pub first_size : length eq0 ≡ 4 * 2 ^ first k
  pub others_size : length eq1 ≡ 4 * 2 ^ others k
  pub first_below : unreduced p eq0 ≡ false
  pub others_below : unreduced p eq1 ≡ false
  pub first_at : (j : ℕ) → j < 2 ^ first k → element_at eq0 j ≡ element_at work j
  pub others_at : (j : ℕ) → element_at eq1 j ≡ element_at work (2 ^ first k + j)

-- the weight of row y: eq0 at its high bits, times eq1 at its low ones
unfoldable pub row_weight : ℕ → List ℕ → ℕ → Ext
row_weight k work y = field.mul (element_at work (y / 2 ^ others k)) (element_at work (2 ^ first k + y % 2 ^ others k))

-- out, to each row of which given times its weight is added
abbrev pub accumulated : ℕ → List ℕ → Ext → List ℕ → List ℕ
accumulated k work given out = table_words (2 ^ k) (λ y. field.add (element_at out y) (field.mul given (row_weight k work y)))

-- out has a reduced element for each row of k coordinates
pub record Open (k : ℕ) (out : List ℕ) : Type 0 where
  pub room : length out ≡ 4 * 2 ^ k
  pub below : unreduced p out ≡ false
