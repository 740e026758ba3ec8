-- What the sums of products take. No operation that users call cites it. Assumes nothing.
use Rattle.std.specs.Prelude.{◌≡◌, false, ℕ, ◌+◌, ◌*◌, ◌/◌, ◌%◌, ◌≤◌, ◌<◌, ◌^◌, List, length, get_or}
use Rattle.algebra.specs.Words.{unreduced}
use Rattle.field.specs.Field.{p}
use Rattle.table.specs.Refusals.{most}

-- the words of the largest table
abbrev pub most_words : ℕ
most_words = 2 ^ most

-- a weight for each of at most so many words, all reduced
-- A clause: callers of `dot_few` cut the slices for the call, so that a struct of both would be made for each.
pub record Dots (weights words : List ℕ) : Type 0 where
  pub size : length weights ≡ 4 * length words
  pub few : length words ≤ most_words
  pub weights_below : unreduced p weights ≡ false
  pub words_below : unreduced p words ≡ false

-- n weights and n entries of a table of elements, at most so many, all reduced
pub record Pairs (n : ℕ) (weights entries : List ℕ) : Type 0 where
  pub few : n ≤ most_words
  pub weights_there : 4 * n ≤ length weights
  pub entries_there : 4 * n ≤ length entries
  pub weights_below : unreduced p weights ≡ false
  pub entries_below : unreduced p entries ≡ false

-- a table of weights, of so many words, all reduced
pub record Whole (words : ℕ) (table : List ℕ) : Type 0 where
  pub fours : 4 * (words / 4) ≡ words
  pub few : words / 4 ≤ most_words
  pub size : length table ≡ words
  pub below : unreduced p table ≡ false

-- where the word is in the table that is at i with each coordinate on its own
abbrev pub place : ℕ → ℕ → ℕ
place words i = 4 * (i % (words / 4)) + i / (words / 4)

-- the first n words of a room are the table's, with each coordinate on its own
pub record Filled (words : ℕ) (table : List ℕ) (n : ℕ) (room : List ℕ) : Type 0 where
  pub size : length room ≡ words
  pub each : (i : ℕ) → i < n → get_or room i 0 ≡ get_or table (place words i) 0

-- a table, and the same with each coordinate on its own
pub record Spread (words : ℕ) (table spread : List ℕ) : Type 0 where
  pub whole : Whole words table
  pub size : length spread ≡ words
  pub same : (c y : ℕ) → c < 4 → y < words / 4 → get_or spread (c * (words / 4) + y) 0 ≡ get_or table (4 * y + c) 0
