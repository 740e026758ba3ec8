-- The weights of a spread table, and the words that they are for. Assumes nothing.
use mathlib.Core.Path.{◌≡◌, refl, sym, ap, ap₂, ◌∙◌}
use mathlib.Core.Bool.{false}
use Prim.Native.Nat.{ℕ, zero, suc, ◌+◌, ◌*◌, ◌/◌, ◌≤◌, ◌<◌}
use native.Mathlib.Omega.{arith}
use mathlib.Core.List.{List}
use lib.ListN.{length, get_or, take, drop, length-drop}
use lib.Seq.{get_or-drop, length-take-le}
use Rattle.algebra.specs.Sum.{sum_to}
use Rattle.algebra.specs.Words.{unreduced}
use Rattle.algebra.proofs.Sums.{sum_ext}
use Rattle.algebra.proofs.Words.{unreduced_take, unreduced_drop}
use Rattle.field.specs.Field.{Ext, field, base, from_words, Holds}
use Rattle.field.proofs.Laws.{field_ring}
use Rattle.table.specs.Table.{element_at}
use Rattle.table.proofs.Parts.{get_drop, get_lent}
use Rattle.field.specs.declared.Element.{Element}
use Rattle.dots.specs.declared.halves.Halves.{Halves}
use Rattle.dots.specs.Dots.{Dots, most_words}
use Rattle.dots.specs.Inner.{run, coordinate, Spanned, Summed, settled}
use Rattle.dots.proofs.Settling.{finish}
use Rattle.algebra.proofs.Words.{below}
use Rattle.field.specs.Field.{p, p_pos}
use Rattle.dots.specs.Dots.{Spread}
use Rattle.dots.specs.Spans.{Spans, product_at}

module _ {size : ℕ} {spread : List ℕ} {from : ℕ} {words : List ℕ} (s : Spans size spread from words) where
  -- a weight and a word that are multiplied are below p
  pub both_below : (k y : ℕ) → k < 4 → y < length words → (get_or spread (k * (size / 4) + from + y) 0 < p) × (get_or words y 0 < p)
  both_below k y l b = (s.weights_below k y l b, below p words s.words_below p_pos y)

  -- they are no more than the largest table has
  pub words_few : length words ≤ most_words
  words_few = omega (arith, s.few, s.there)

module _ {size : ℕ} {table spread : List ℕ} (s : Spread size table spread) (from : ℕ) (words : List ℕ) (there : from + length words ≤ size / 4)
    (below_p : unreduced p words ≡ false) where
  -- coordinate k of weight from + y
  weight_is : (k y : ℕ) → k < 4 → y < length words → get_or spread (k * (size / 4) + from + y) 0 ≡ get_or table (4 * (from + y) + k) 0
  weight_is k y l b =
      let e : k * (size / 4) + from + y ≡ k * (size / 4) + (from + y) = omega arith in
      rw e (s.same k (from + y) l (omega arith))

  pub spans : Spans size spread from words
  spans =
      record {
        fours = s.whole.fours;
        few = s.whole.few;
        there = there;
        spread_size = s.size;
        weights_below = λ k y l b. rw (weight_is k y l b) (below p table s.whole.below p_pos (4 * (from + y) + k));
        words_below = below_p;
      }

  abbrev weights : List ℕ
  weights = drop (4 * from) table

  coordinate_is : (k n : ℕ) → k < 4 → n ≤ length words → run (product_at size spread from words k) 0 n ≡ coordinate weights words k n
  unfolding run coordinate
  coordinate_is k zero l b = refl
  coordinate_is k (suc n) l b =
      let i : product_at size spread from words k (0 + n) ≡ product_at size spread from words k n = ap (product_at size spread from words k) (omega arith) in
      let j : 4 * (from + n) + k ≡ 4 * from + (4 * n + k) = omega arith in
      let w : get_or spread (k * (size / 4) + from + n) 0 ≡ get_or weights (4 * n + k) 0 =
      weight_is k n l (omega arith) ∙ ap (λ m. get_or table m 0) j ∙ sym (get_or-drop (4 * from) table (4 * n + k) 0) in
      ap₂ ◌+◌ (coordinate_is k n l (omega arith)) (i ∙ ap (λ m. m * get_or words n 0) w)

  abbrev term : ℕ → Ext
  term y = field.mul (element_at table (from + y)) (base (get_or words y 0))

  -- all words
  pub spanned_holds : {n : ℕ} {r : List Halves} → n ≡ length words → Spanned (product_at size spread from words) n r
      → Holds (settled r) (sum_to field (length words) term)
  spanned_holds {n} {r} e u =
      let all : Spanned (product_at size spread from words) (length words) r = rw e at u in
      let summed : Summed weights words (length words) r =
      record {
        there = omega arith;
        each = λ k b.
            record {
              is = (all.each k b).is ∙ coordinate_is k (length words) b (omega arith);
              within = (all.each k b).within;
            };
      } in
      rw (sum_ext field_ring (length words) _ term (λ y b. ap (λ d. field.mul (from_words d) (base (get_or words y 0))) (get_drop from y table)))
      at (finish weights words summed)

  -- few words: the weights of the table
  module _ {n : ℕ} (e : n ≡ 4 * length words) where
    pub few_dots : Dots (take n (drop (4 * from) table)) words
    few_dots = rw e dots
      where
        dots : Dots (take (4 * length words) (drop (4 * from) table)) words
        dots =
            record {
              size = length-take-le (4 * length words) (drop (4 * from) table)
                  (omega (arith, there, s.whole.fours, s.whole.size, length-drop (4 * from) table));
              few = omega (arith, there, s.whole.few);
              weights_below = unreduced_take p p_pos (4 * length words) _ (unreduced_drop p p_pos (4 * from) table s.whole.below);
              words_below = below_p;
            }

    pub few_holds : {x : Element} → Holds x (sum_to field (length words)
        (λ y. field.mul (element_at (take n (drop (4 * from) table)) y) (base (get_or words y 0))))
        → Holds x (sum_to field (length words) term)
    few_holds {x} d = rw (sum_ext field_ring (length words) _ term
        (λ y b. ap (λ a. field.mul (from_words a) (base (get_or words y 0))) (get_lent from (length words) y table b))) at (rw e at d)
