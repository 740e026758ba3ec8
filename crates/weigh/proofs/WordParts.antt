-- What `part`, `trimmed` and `halves` lend their calls, and what they give. Assumes nothing.
use mathlib.Core.Path.{◌≡◌, sym, ap, ◌∙◌}
use Prim.Native.Nat.{ℕ, ◌+◌, ◌-◌, ◌*◌, ◌/◌, ◌^◌, ◌≤◌}
use native.Mathlib.Nat.{zero-add}
use native.Mathlib.Omega.{arith}
use mathlib.Core.List.{List}
use lib.ListN.{length, get_or, take, drop, length-drop}
use lib.Pow.{pow_mono}
use lib.Seq.{length-take-le}
use Rattle.algebra.specs.Sum.{sum_to}
use Rattle.algebra.proofs.Sums.{sum_ext, sum_none, sum_middle}
use Rattle.algebra.proofs.Words.{unreduced_take, unreduced_drop}
use Rattle.multilinear.specs.Values.{value_at}
use Rattle.multilinear.specs.Beside.{line}
use Rattle.multilinear.proofs.Values.{value_ext, value_none}
use Rattle.field.specs.Field.{p, p_pos, Ext, field, base, from_words, Holds}
use Rattle.field.specs.declared.Element.{Element}
use Rattle.field.proofs.Laws.{field_ring}
use Rattle.table.specs.Table.{element_at}
use Rattle.table.proofs.Parts.{get_lent}
use Rattle.table.proofs.Placed.{absent, placed_before, placed_word, placed_after, placed_none}
use Rattle.dots.specs.Dots.{Dots}
use Rattle.point.specs.Points.{coordinates}
use Rattle.weigh.specs.declared.blocks.Piece.{Piece}
use Rattle.weigh.specs.declared.blocks.SplitPoint.{SplitPoint}
use Rattle.weigh.specs.Weigh.{block_variables, block_sum}
use Rattle.weigh.specs.Blocks.{Fits, After, Halves, word_of, part_value}
use Rattle.weigh.proofs.Splitting.{one_block, twice, joined}

-- no row has a word
pub no_words : (low : ℕ) (block : List ℕ) (zs : List Ext) (word : ℕ → ℕ) → ((y : ℕ) → word y ≡ 0)
    → value_at field zs (block_sum low block (λ y. base (word y))) ≡ field.zero
unfolding block_sum
no_words low block zs word e =
    value_ext field_ring zs _ _
    (λ h b. sum_ext field_ring (2 ^ low) _ _ (λ l c. absent (element_at block l) (e _)) ∙ sum_none field_ring (2 ^ low))
    ∙ value_none field_ring zs

module _ {size : ℕ} (a : SplitPoint size) (piece : Piece) where
  abbrev words : List ℕ
  words = piece.words.now

  -- no word is there
  pub nothing : length words ≡ 0 → {x : Element} → Holds x field.zero → Holds x (part_value a piece)
  nothing e d = rw (no_words a.low a.block.table.now (coordinates a.high) (word_of piece) (placed_none piece.from words e)) d

  module _ (fits : Fits a piece) where
    -- no coordinate is left: a weight for each word that is there
    module _ (none : a.high.count ≡ 0) where
      few_words : piece.from + length words ≤ 2 ^ a.low
      few_words = rw (none, zero-add) at fits

      few : piece.from + length words ≤ 2 ^ block_variables
      few = omega (arith, few_words, pow_mono a.summed.small)

      pub weights_there : 4 * piece.from + 4 * length words ≤ length a.block.table.now
      weights_there = omega (arith, few_words, a.summed.room.enough)

      abbrev weights : List ℕ
      weights = take (4 * length words) (drop (4 * piece.from) a.block.table.now)

      pub dots : Dots weights words
      dots =
          record {
            size = length-take-le (4 * length words) (drop (4 * piece.from) a.block.table.now)
                (omega (arith, weights_there, length-drop (4 * piece.from) a.block.table.now));
            few = omega (arith, few);
            weights_below = unreduced_take p p_pos (4 * length words) _ (unreduced_drop p p_pos (4 * piece.from) a.block.table.now a.summed.room.below);
            words_below = piece.below;
          }

      abbrev product : ℕ → Ext
      product y = field.mul (element_at a.block.table.now y) (base (word_of piece y))

      abbrev lent_product : ℕ → Ext
      lent_product y = field.mul (element_at a.block.table.now (piece.from + y)) (base (get_or words y 0))

      all_rows : sum_to field (length words) lent_product ≡ sum_to field (2 ^ a.low) product
      all_rows =
          sum_ext field_ring (length words) _ _
          (λ y b. ap (λ w. field.mul (element_at a.block.table.now (piece.from + y)) (base w)) (sym (placed_word piece.from words y)))
          ∙ sym
          (sum_middle field_ring (2 ^ a.low) piece.from (length words) product few_words
          (λ y b. absent (element_at a.block.table.now y) (placed_before piece.from words y b))
          (λ y b. absent (element_at a.block.table.now y) (placed_after piece.from words y b)))

      -- the words are no more than the table's weights
      pub rows_there : piece.from + length words ≤ size / 4
      rows_there = omega (arith, few_words, a.summed.room.enough, a.block.same.whole.size)

      pub dotted : {x : Element} → Holds x (sum_to field (length words) lent_product) → Holds x (part_value a piece)
      dotted d = one_block a (λ y. base (word_of piece y)) none (rw all_rows at d)

      -- the weights lent
      pub few_dotted : {x : Element}
          → Holds x (sum_to field (length words) (λ y. field.mul (element_at weights y) (base (get_or words y 0))))
          → Holds x (part_value a piece)
      few_dotted d =
          dotted
          (rw (sum_ext field_ring (length words) _ lent_product
          (λ y b. ap (λ e. field.mul (from_words e) (base (get_or words y 0))) (get_lent piece.from (length words) y a.block.table.now b))) at d)

    -- the words of the halves
    module _ (left : a.high.count ≡ 0 → ⊥) {rest : SplitPoint size} (is : After 1 a rest) {half : ℕ} (e : half ≡ 2 ^ (a.high.count - 1 + a.low))
        {low high : Piece} (parts : Halves half piece low high) where
      pub low_fits : Fits rest low
      low_fits = rw (is.high.count, is.low, sym e) parts.low_fits

      pub high_fits : Fits rest high
      high_fits = rw (is.high.count, is.low, sym e) (omega (arith, parts.high_fits, fits, twice a left, e))

      pub words_joined : {at0 at1 r x : Element} → Holds at0 (part_value rest low) → Holds at1 (part_value rest high)
          → Holds r (element_at a.high.words.now 0) → Holds x (line field (from_words at0) (from_words at1) (from_words r))
          → Holds x (part_value a piece)
      words_joined =
          joined a left is (λ y. base (word_of piece y)) (λ y. base (word_of low y)) (λ y. base (word_of high y))
          (λ y b. ap base (parts.low_is y (rw e b)))
          (λ y b. ap base (parts.high_is y ∙ ap (λ n. word_of piece (n + y)) e))
