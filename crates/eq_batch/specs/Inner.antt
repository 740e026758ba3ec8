-- What the inner functions take and give. No operation that users call cites it. Assumes nothing.
use Rattle.std.specs.Prelude.{◌≡◌, false, ℕ, ◌+◌, ◌*◌, ◌≤◌, ◌<◌, List, length}
use Rattle.algebra.specs.Words.{unreduced}
use Rattle.multilinear.specs.Equality.{eq_at}
use Rattle.field.specs.Field.{p, Ext, field, from_words, Reduced}
use Rattle.field.specs.declared.Element.{Element}
use Rattle.table.specs.Table.{get_at, entries, elements}
use Rattle.table.specs.Refusals.{most}
use Rattle.eq_batch.specs.Batch.{most_points, column}

-- n elements from place `from` on stand in out, each reduced
-- A clause: a struct with out as `&mut` would be made for each call, and its fact shown again at each write through it.
pub record Elements (from n : ℕ) (ws : List ℕ) : Type 0 where
  pub fits : 4 * (from + n) ≤ length ws
  pub reduced : (y : ℕ) → y < n → Reduced (get_at ws (from + y))

-- n rows of a coordinate for each scalar
pub record Points (n : ℕ) (points scalars : List ℕ) : Type 0 where
  pub few : n ≤ most
  pub few_points : entries scalars ≤ most_points
  pub rows : 4 * (n * entries scalars) ≤ length points
  pub points_below : unreduced p points ≡ false
  pub scalars_below : unreduced p scalars ≡ false

-- column j stands in n rows of w coordinates
pub record Column (n w j : ℕ) (points : List ℕ) : Type 0 where
  pub few : n ≤ most
  pub few_points : w ≤ most_points
  pub within : j < w
  pub rows : 4 * (n * w) ≤ length points
  pub below : unreduced p points ≡ false

-- r has column j as its first n elements
pub record Gathered (n w j : ℕ) (points r : List ℕ) : Type 0 where
  pub size : length r ≡ 80
  pub below : unreduced p r ≡ false
  pub point_is : elements r 0 n ≡ column points n w j

-- scale·eq of coordinates, at row y
abbrev pub scaled_at : Element → List Ext → ℕ → Ext
scaled_at scale zs y = field.mul (from_words scale) (eq_at field zs y)
