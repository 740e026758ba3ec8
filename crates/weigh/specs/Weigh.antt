-- What the sums against eq take and give. No operation that users call cites it. Assumes nothing.
use Rattle.std.specs.Prelude.{◌≡◌, false, ℕ, suc, ◌+◌, ◌-◌, ◌*◌, ◌/◌, ◌^◌, ◌≤◌, ◌<◌, List, length, drop}
use Rattle.algebra.specs.Sum.{sum_to}
use Rattle.algebra.specs.Words.{unreduced}
use Rattle.multilinear.specs.Equality.{eq_at}
use Rattle.field.specs.Field.{p, factor, Ext, field, base, Holds}
use Rattle.table.specs.Table.{get_at, element_at, elements}
use Rattle.table.specs.Refusals.{most}
use Rattle.point.specs.declared.Point.{Point}

-- the most variables of a block
abbrev pub block_variables : ℕ
block_variables = 8

-- a word for each row of k coordinates; the last may be missing
pub record NearlyWhole (k : ℕ) (words : List ℕ) : Type 0 where
  pub fits : length words ≤ 2 ^ k
  pub there : 2 ^ k ≤ suc (length words)
  pub below : unreduced p words ≡ false

-- the first n coordinates times X⁴
pub record Raised (n : ℕ) (point ws : List ℕ) : Type 0 where
  pub room : 4 * n ≤ length ws
  pub holds : (j : ℕ) → j < n → Holds (get_at ws j) (field.mul (element_at point j) (base factor))

-- what is left of a point after the first k coordinates
pub record Rest (k : ℕ) (point rest : Point) : Type 0 where
  pub words : rest.words.now ≡ drop (4 * k) point.words.now
  pub count : rest.count ≡ point.count - k

-- a block of low variables has room in the words
pub record BlockRoom (low : ℕ) (ws : List ℕ) : Type 0 where
  pub enough : 4 * 2 ^ low ≤ length ws
  pub below : unreduced p ws ≡ false

-- the table of scale·eq of the low coordinates that follow the first high ones
pub record Block (high low : ℕ) (point : List ℕ) (scale : Ext) (block : List ℕ) : Type 0 where
  pub room : BlockRoom low block
  pub holds : (y : ℕ) → y < 2 ^ low → element_at block y ≡ field.mul scale (eq_at field (elements point high low) y)

-- the table of a block of `low` variables, for the rows of high and low variables
pub record Summed (high low : ℕ) (block : List ℕ) : Type 0 where
  pub few : high + low ≤ most
  pub small : low ≤ block_variables
  pub room : BlockRoom low block

-- the table of a block of low variables has room in an array of so many words, no more than the largest block's
pub record InArray (low words : ℕ) : Type 0 where
  pub small : low ≤ block_variables
  pub room : 4 * 2 ^ low ≤ words
  pub fours : 4 * (words / 4) ≡ words
  pub few : words ≤ 4 * 2 ^ block_variables

-- block h of the rows f, summed against the block's table
unfoldable pub block_sum : ℕ → List ℕ → (ℕ → Ext) → ℕ → Ext
block_sum low block f h = sum_to field (2 ^ low) (λ l. field.mul (element_at block l) (f (h * 2 ^ low + l)))
