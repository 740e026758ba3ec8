-- What tables of elements by a factor take and give. No operation that users call cites it. Assumes nothing.
use Rattle.std.specs.Prelude.{◌≡◌, false, ℕ, ◌+◌, ◌*◌, ◌≤◌, ◌<◌, List, length}
use Rattle.algebra.specs.Words.{unreduced}
use Rattle.field.specs.Field.{p, Ext, to_words}
use Rattle.table.specs.Table.{get_at, entries}

-- reduced elements, and as many places of out from place `from` on
-- A clause: out goes on to the next block, and a struct with it as `&mut` would be made for each.
pub record Reaches (from : ℕ) (rows out : List ℕ) : Type 0 where
  pub fits : 4 * (from + entries rows) ≤ length out
  pub below : unreduced p rows ≡ false

-- the n elements from place `from` on are g 0, .. g (n - 1), the others are as they were
pub record Becomes (from n : ℕ) (g : ℕ → Ext) (ws w : List ℕ) : Type 0 where
  pub len : length w ≡ length ws
  pub is : (y : ℕ) → y < n → get_at w (from + y) ≡ to_words (g y)
  pub before : (y : ℕ) → y < from → get_at w y ≡ get_at ws y
  pub after : (y : ℕ) → from + n ≤ y → get_at w y ≡ get_at ws y
