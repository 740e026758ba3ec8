-- A point's coordinates in words, as the functions that compute with them find it. Assumes nothing.
use Rattle.std.specs.Prelude.{◌≡◌, false, ℕ, ◌*◌, ◌≤◌, List, length}
use Rattle.algebra.specs.Words.{unreduced}
use Rattle.field.specs.Field.{p}
use Rattle.table.specs.Refusals.{most}

-- k coordinates at the front of the words, each word below p
pub record Coordinates (k : ℕ) (point : List ℕ) : Type 0 where
  pub few : k ≤ most
  pub count : 4 * k ≤ length point
  pub below : unreduced p point ≡ false
