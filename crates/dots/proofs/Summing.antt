-- The sums of the coordinates of products with base words: what they are at the start, what they gain, and that there is room for them.
-- Assumes nothing.
use mathlib.Core.Path.{◌≡◌, sym, ap, ◌∙◌}
use Prim.Native.Nat.{ℕ, ◌+◌, ◌≤◌, ◌<◌}
use native.Mathlib.Omega.{arith}
use mathlib.Core.List.{List}
use lib.ListN.{get_or}
use Rattle.algebra.proofs.Words.{below}
use Rattle.field.specs.Field.{p, p_pos}
use Rattle.dots.specs.declared.halves.Halves.{Halves}
use Rattle.dots.specs.Dots.{Dots}
use Rattle.dots.specs.Inner.{value, Within, Grown, Kept, most_gains}

-- two words that are multiplied are below p
pub both_below : {weights words : List ℕ} → Dots weights words → (j i : ℕ) → (get_or weights j 0 < p) × (get_or words i 0 < p)
both_below {weights} {words} h j i = (below p weights h.weights_below p_pos j, below p words h.words_below p_pos i)

-- halves that hold nothing yet
pub kept_none : (sums : ℕ → ℕ) → sums 0 ≡ 0 → {h : Halves} → (value h ≡ 0) × Within 0 h → Kept sums 0 h
kept_none sums z e = record { is = e.0 ∙ sym z; within = e.1 }

module _ (sums : ℕ → ℕ) (i : ℕ) {h : Halves} (u : Kept sums i h) where
  pub kept_room : i ≤ most_gains → Within most_gains h
  unfolding Within
  kept_room l = omega (arith, u.within)

  pub kept_more : (n x : ℕ) {r : Halves} → 0 < n → sums (i + n) ≡ sums i + x → Grown h x r → Kept sums (i + n) r
  unfolding Within
  kept_more n x z e g =
      record {
        is = g.more ∙ ap (λ (y : ℕ). y + x) u.is ∙ sym e;
        within = omega (arith, g.within i u.within);
      }
