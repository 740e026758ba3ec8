-- What a point in bytes is decoded under: a record of inner functions, here and in `ward`. Assumes nothing.
use Rattle.std.specs.Prelude.{◌≡◌, ℕ, ◌*◌, ◌%◌, ◌≤◌, List, length}
use Rattle.table.specs.Refusals.{most}

-- the bytes of at most 20 coordinates
-- A clause: callers lend the bytes, which are tested and then decoded.
pub record Few (point : List ℕ) : Type 0 where
  pub whole : length point % 16 ≡ 0
  pub few : length point ≤ 16 * most
