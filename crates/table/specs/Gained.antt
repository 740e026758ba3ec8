-- What loops that add to elements give. Assumes nothing.
use Rattle.std.specs.Prelude.{◌≡◌, false, ℕ, ◌+◌, ◌≤◌, ◌<◌, List, length}
use Rattle.algebra.specs.Words.{unreduced}
use Rattle.field.specs.Field.{p, Ext, field, to_words}
use Rattle.table.specs.Table.{get_at, element_at}

-- the n elements from place `from` on gain g 0, .. g (n - 1), the others are as they were, and reduced words stay reduced
pub record Gained (from n : ℕ) (g : ℕ → Ext) (ws w : List ℕ) : Type 0 where
  pub len : length w ≡ length ws
  pub gained : (y : ℕ) → y < n → get_at w (from + y) ≡ to_words (field.add (element_at ws (from + y)) (g y))
  pub before : (y : ℕ) → y < from → get_at w y ≡ get_at ws y
  pub after : (y : ℕ) → from + n ≤ y → get_at w y ≡ get_at ws y
  pub below : unreduced p ws ≡ false → unreduced p w ≡ false
