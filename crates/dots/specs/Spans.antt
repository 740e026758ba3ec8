-- Words, and the weights of a spread table that they meet. No operation that users call cites it. Assumes nothing.
use Rattle.std.specs.Prelude.{◌≡◌, false, ℕ, ◌+◌, ◌*◌, ◌/◌, ◌≤◌, ◌<◌, List, length, get_or}
use Rattle.algebra.specs.Words.{unreduced}
use Rattle.field.specs.Field.{p}
use Rattle.dots.specs.Dots.{most_words}

-- coordinate k of weight from + y, times word y
abbrev pub product_at : ℕ → List ℕ → ℕ → List ℕ → ℕ → ℕ → ℕ
product_at size spread from words k y = get_or spread (k * (size / 4) + from + y) 0 * get_or words y 0

-- a weight for each word, from weight `from` on, all reduced
pub record Spans (size : ℕ) (spread : List ℕ) (from : ℕ) (words : List ℕ) : Type 0 where
  pub fours : 4 * (size / 4) ≡ size
  pub few : size / 4 ≤ most_words
  pub there : from + length words ≤ size / 4
  pub spread_size : length spread ≡ size
  pub weights_below : (k y : ℕ) → k < 4 → y < length words → get_or spread (k * (size / 4) + from + y) 0 < p
  pub words_below : unreduced p words ≡ false
