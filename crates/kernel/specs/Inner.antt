-- What the inner functions take and give. No operation that users call cites it. Assumes nothing.
use Rattle.std.specs.Prelude.{◌≡◌, false, ℕ, zero, suc, ◌+◌, ◌*◌, ◌/◌, ◌<◌, ◌≤◌, ◌≢◌, List, length, get_or}
use Rattle.algebra.specs.Words.{unreduced, numbers}
use Rattle.field.specs.Field.{p, p_pos, Ext, field, base, from_words, at, Holds}
use Rattle.field.specs.Inner.{unit}
use Rattle.field.specs.declared.Element.{Element}
use Rattle.lowering.specs.Lowering.{unit_inverse}
use Rattle.table.specs.Table.{get_at}
use Rattle.dots.specs.declared.halves.Halves.{Halves}
use Rattle.dots.specs.Inner.{value, Within, Grown, Kept, most_gains}
use Rattle.kernel.specs.Kernel.{weight_at}
use Rattle.kernel.specs.declared.steps.Strided.{Strided}

-- the n words are there, and below p
-- A clause: where they stand differs from turn to turn, and a struct of it and of the words would be made at each.
pub record There (n : ℕ) (words : List ℕ) (s : Strided) : Type 0 where
  pub within : (t : ℕ) → t < n → t * s.apart + s.first < length words
  pub below : (t : ℕ) → get_or words t 0 < p

-- word t
abbrev pub word_at : List ℕ → Strided → ℕ → ℕ
word_at words s t = get_or words (t * s.apart + s.first) 0

-- coordinate k of the first n weights, each times its word
unfoldable pub products : List Element → ℕ → (ℕ → ℕ) → ℕ → ℕ
products weights k word zero = 0
products weights k word (suc n) = products weights k word n + at (weight_at weights n) k * word n

-- the first n of vs are those of ws times 2³²
pub record Raised (n : ℕ) (ws vs : List Element) : Type 0 where
  pub len : length vs ≡ length ws
  pub each : (t : ℕ) → t < n → Holds (weight_at vs t) (field.mul (from_words (weight_at ws t)) (base unit))

-- the places of a block, and how far the runs of its sums are apart
abbrev pub block : ℕ
block = 256

abbrev pub stride : ℕ
stride = 258

-- where the sum of coordinate k of place i stands, and what it is
abbrev pub cell_at : ℕ → ℕ → ℕ
cell_at k i = 2 * stride * k + i

unfoldable pub cell : List ℕ → ℕ → ℕ → Halves
cell sums k i = record { all = get_or sums (cell_at k i) 0; hi = get_or sums (cell_at k i + stride) 0 }

-- that sum has gained x, and the others are as they were
pub record GrownCell (k i x : ℕ) (s w : List ℕ) : Type 0 where
  pub grown : Grown (cell s k i) x (cell w k i)
  pub other_runs : (l j : ℕ) → j < stride → l ≢ k → cell w l j ≡ cell s l j
  pub other_places : (l j : ℕ) → j < stride → j ≢ i → cell w l j ≡ cell s l j

-- the first m coordinates of place i have gained, each what xs says, and all else is as it was
pub record GrownPlace (m i : ℕ) (xs : ℕ → ℕ) (s w : List ℕ) : Type 0 where
  pub grown : (k : ℕ) → k < m → Grown (cell s k i) (xs k) (cell w k i)
  pub later : (k : ℕ) → m ≤ k → cell w k i ≡ cell s k i
  pub others : (k j : ℕ) → j < stride → j ≢ i → cell w k j ≡ cell s k j

-- the first n places have gained, each coordinate what xs says, and the later places are as they were
pub record GrownPlaces (n : ℕ) (xs : ℕ → ℕ → ℕ) (s w : List ℕ) : Type 0 where
  pub grown : (i k : ℕ) → i < n → k < 4 → Grown (cell s k i) (xs i k) (cell w k i)
  pub later : (i k : ℕ) → n ≤ i → i < stride → cell w k i ≡ cell s k i

-- the sums of place i are not too great to gain once more, or to be divided
pub record Open (i : ℕ) (sums : List ℕ) : Type 0 where
  pub few : i < block
  pub within : (k : ℕ) → k < 4 → Within most_gains (cell sums k i)

-- those of the first n places
pub record Space (n : ℕ) (sums : List ℕ) : Type 0 where
  pub few : n ≤ block
  pub each : (i : ℕ) → i < n → Open i sums

-- the words of the first `count` places of four rows of n words
pub record Columns (count n : ℕ) (words : List ℕ) : Type 0 where
  pub there : 3 * n + count ≤ length words
  pub below : unreduced p words ≡ false

-- what coordinate k of place i gains of four rows of n words
abbrev pub four_products : List Element → ℕ → List ℕ → ℕ → ℕ → ℕ
four_products weights n words i k = products weights k (word_at words (record { first = i; apart = n })) 4

-- the words of the first `count` places of as many rows of n words as the table has weights, by fours
pub record Rows (count n : ℕ) (words table : List ℕ) : Type 0 where
  pub few : count ≤ block
  pub fours : length table ≡ 16 * (length table / 16)
  pub most : length table ≤ 1024
  pub within : count ≤ n
  pub there : length table / 4 * n + count ≤ length words + n
  pub words_below : unreduced p words ≡ false
  pub table_below : unreduced p table ≡ false

-- coordinate k of the sum of the first m rows' words of place i, each by its weight
unfoldable pub total : List ℕ → ℕ → List ℕ → ℕ → ℕ → ℕ → ℕ
total table n words i k zero = 0
total table n words i k (suc m) = total table n words i k m + at (get_at table m) k * get_or words (m * n + i) 0

-- no sum holds anything
pub record Cleared (sums : List ℕ) : Type 0 where
  pub each : (k i : ℕ) → (value (cell sums k i) ≡ 0) × Within 0 (cell sums k i)

-- the sums of the first `count` places are those of the first 4 m rows
pub record Totals (count n : ℕ) (words table : List ℕ) (m : ℕ) (sums : List ℕ) : Type 0 where
  pub each : (i k : ℕ) → i < count → k < 4 → Kept (λ j. total table n words i k (4 * j)) m (cell sums k i)

-- the element of place i, divided by 2⁶⁴
unfoldable pub brought : List ℕ → ℕ → Ext
brought sums i =
    field.mul (numbers p p_pos (value (cell sums 0 i)) (value (cell sums 1 i)) (value (cell sums 2 i)) (value (cell sums 3 i)))
    (base (unit_inverse * unit_inverse))
