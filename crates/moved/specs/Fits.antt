-- A piece in its table. No operation that users call cites it. Assumes nothing.
use Rattle.std.specs.Prelude.{ℕ, ◌+◌, ◌*◌, ◌^◌, ◌≤◌, ◌<◌, List, length}
use Rattle.table.specs.Refusals.{largest}

-- words from word `taken` on of a table of 2^k rows of `inner` words
pub record Fits (k inner taken : ℕ) (words : List ℕ) : Type 0 where
  pub some : 0 < inner
  pub small : 2 ^ k * inner ≤ largest
  pub within : taken + length words ≤ 2 ^ k * inner
