-- The words of a piece in the two halves of its rows, the first `cut` of them in the low half, where they stand from row `start` on.
-- Assumes nothing.
use mathlib.Core.Path.{◌≡◌}
use mathlib.Core.Bool.{false}
use Prim.Native.Nat.{ℕ, min, ◌+◌, ◌-◌, ◌≤◌, ◌<◌}
use native.Mathlib.Omega.{arith}
use mathlib.Core.List.{List}
use lib.ListN.{length, take}
use lib.Seq.{length-take-le}
use Rattle.algebra.specs.Words.{unreduced}
use Rattle.algebra.proofs.Words.{unreduced_take}
use Rattle.field.specs.Field.{p, p_pos}
use Rattle.table.specs.Table.{placed}
use Rattle.table.proofs.Parts.{after, after_length, after_below}
use Rattle.table.proofs.Placed.{placed_low, placed_high}
use Rattle.weigh.specs.declared.blocks.Piece.{Piece}
use Rattle.weigh.specs.Blocks.{word_of}

-- the smaller of two numbers as a difference
less : (a b n : ℕ) → n ≡ min a b → n ≡ a - (a - b)
less a b n e = omega (arith, e)

module _ (piece : Piece) where
  abbrev words : List ℕ
  words = piece.words.now

  module _ (cut : ℕ) where
    pub low_below : unreduced p (take cut words) ≡ false
    low_below = unreduced_take p p_pos cut words piece.below

    pub high_below : unreduced p (after cut words) ≡ false
    high_below = after_below cut words piece.below

  module _ (half : ℕ) {start cut : ℕ} (s : start ≡ min piece.from half) (c : cut ≡ min (length words) (half - start)) where
    cut_length : length (take cut words) ≡ cut
    cut_length = length-take-le cut words (omega (arith, c))

    pub low_fits : start + length (take cut words) ≤ half
    low_fits = omega (arith, s, c, cut_length)

    pub high_fits : piece.from - start + length (after cut words) ≡ piece.from + length words - half
    high_fits = omega (arith, s, c, after_length cut words)

    pub low_is : (y : ℕ) → y < half → placed start (take cut words) y ≡ word_of piece y
    low_is = placed_low half piece.from words start cut (less piece.from half start s) (less (length words) (half - start) cut c)

    pub high_is : (y : ℕ) → placed (piece.from - start) (after cut words) y ≡ word_of piece (half + y)
    high_is = placed_high half piece.from words start cut (less piece.from half start s) (less (length words) (half - start) cut c)
