-- Words scattered over their places: none, one row, whole rows, and the two halves of the rows. Assumes nothing.
use mathlib.Core.Path.{◌≡◌, sym, ap, ap₂, ◌∙◌}
use mathlib.Core.Bool.{false}
use Prim.Native.Nat.{ℕ, suc, min, ◌+◌, ◌-◌, ◌*◌, ◌^◌, ◌≤◌, ◌<◌}
use native.Mathlib.Nat.{add-mul, pos_of_ne-zero, two-pow-succ}
use native.Mathlib.Omega.{arith}
use mathlib.Core.List.{List, [], ◌∷◌}
use lib.ListN.{length, get_or, take, drop}
use lib.Seq.{length-take-le}
use Rattle.algebra.specs.Ring.{minus}
use Rattle.algebra.specs.Words.{unreduced}
use Rattle.algebra.proofs.Words.{unreduced_take}
use Rattle.multilinear.specs.declared.Side.TheVariants.{Prefix}
use Rattle.multilinear.specs.declared.Weight.TheVariants.{Plain}
use Rattle.multilinear.specs.Folds.{fold_at}
use Rattle.multilinear.proofs.Folds.{fold_ext, fold_none}
use Rattle.multilinear.proofs.Weighed.{fold_step, fold_one, prefix_ext}
use Rattle.field.specs.Field.{p, p_pos, Ext, field, base, from_words, Reduced, Holds}
use Rattle.field.specs.declared.Element.{Element}
use Rattle.field.proofs.Laws.{field_ring, base_zero, read_as}
use Rattle.table.specs.Table.{element_at, elements, entries, placed}
use Rattle.table.specs.Gained.{Gained}
use Rattle.table.specs.Refusals.{largest}
use Rattle.table.proofs.Laws.{elements_length}
use Rattle.table.proofs.Gaining.{nothing, gained_as, added, widened}
use Rattle.table.proofs.Parts.{after, after_length, after_below, elements_drop}
use Rattle.table.proofs.Placed.{absent, left_over, placed_before, placed_word, placed_after, placed_none, placed_zero, placed_low, placed_high}
use Rattle.table.proofs.Tests.{reduced_at}
use Rattle.point.specs.declared.Point.{Point}
use Rattle.point.specs.Points.{coordinates}
use Rattle.kernel.specs.Kernel.{Groups, rows_at}
use Rattle.scatter.specs.Scatter.{Scatters, Scattered, whole_rows}
use Rattle.scatter.proofs.WholeRows.{one_row_lem}

-- a row of words from place `from` on, and all other places
pub row_gained : (from : ℕ) (words : List ℕ) {m : ℕ} (weight : Ext) {out w : List ℕ}
    → Gained from (length words) (λ y. field.mul weight (base (get_or words y 0))) out w → unreduced p out ≡ false
    → from + length words ≤ m → Gained 0 m (λ y. field.mul weight (base (placed from words y))) out w
row_gained from words weight d r fits =
    widened _ d r fits (λ y h. ap (λ v. field.mul weight (base v)) (sym (placed_word from words y)))
    (λ y h. absent weight (placed_before from words y h)) (λ y h. absent weight (placed_after from words y h))

-- the coordinates after the first
module _ (rest others : Point) (words_are : others.words.now ≡ drop (4 * 1) rest.words.now) (left : others.count ≡ rest.count - 1)
    (some : rest.count ≡ 0 → ⊥) where
  one_more : rest.count ≡ suc others.count
  one_more = let z : 0 < rest.count = pos_of_ne-zero some in omega arith

  first_and_others : coordinates rest ≡ element_at rest.words.now 0 ∷ coordinates others
  unfolding elements
  first_and_others =
      ap (elements rest.words.now 0) one_more
      ∙ ap (λ zs. element_at rest.words.now 0 ∷ zs)
      (sym (ap (λ l. elements l 0 others.count) words_are ∙ elements_drop 1 0 others.count rest.words.now))

module _ {from : ℕ} {rest : Point} {words out : List ℕ} {weight : Element} (s : Scatters from rest weight words out) where
  abbrev inner : ℕ
  inner = entries out

  pub no_words : length words ≡ 0 → Scattered from rest weight words out out
  no_words e =
      gained_as _ (nothing 0 inner out (λ y h. reduced_at out s.out_below (0 + y)))
      (λ y h. sym
      (fold_ext field_ring Prefix Plain inner (coordinates rest) (from_words weight) _ (λ t. field.zero)
      (λ t. ap base (placed_none from words e t) ∙ base_zero) y
      ∙ fold_none field_ring Prefix Plain inner (coordinates rest) (from_words weight) y))

  -- no coordinate is left: one row
  module _ (none : rest.count ≡ 0) where
    one_row : from + length words ≤ inner
    one_row = let q : 2 ^ 0 * inner ≡ inner = omega arith in rw (none, q) at s.within

    pub row_fits : Groups 1 from (length words) out words
    row_fits = record { room = omega (arith, one_row, s.room); there = omega arith; words_below = s.below }

    pub row_scattered : {w : List ℕ} → Gained from (length words) (rows_at 1 (weight ∷ []) (length words) words) out w
        → Scattered from rest weight words out w
    unfolding elements
    row_scattered d =
        gained_as _ (row_gained from words (from_words weight) (gained_as _ d (λ y h. one_row_lem weight (length words) words y)) s.out_below one_row)
        (λ y h. rw none (sym (fold_one field_ring inner (from_words weight) (λ t. base (placed from words t)) y)))

  -- 2^n whole rows
  module _ (n : ℕ) (left : rest.count ≡ n) (all : length words ≡ 2 ^ n * inner) where
    pub rows_fit : Groups (2 ^ n) 0 inner out words
    rows_fit = record { room = omega (arith, s.room); there = omega (arith, all); words_below = s.below }

    at_first : from ≡ 0
    at_first = let w : from + length words ≤ 2 ^ n * inner = rw left at s.within in omega (arith, all)

    pub rows_scattered : {g : ℕ → Ext} {w : List ℕ} → Gained 0 inner g out w
        → ((y : ℕ) → y < inner → g y ≡ whole_rows rest weight inner words y) → Scattered from rest weight words out w
    rows_scattered d same =
        rw at_first
        (gained_as _ d (λ y h.
        same y h ∙ sym (fold_ext field_ring Prefix Plain inner (coordinates rest) (from_words weight) _ _ (λ t. ap base (placed_zero words t)) y)))

  -- the two halves of the rows, the first `cut` words in the low half, where they stand from word `start` on
  module _ (some : rest.count ≡ 0 → ⊥) where
    twice : 2 ^ rest.count * inner ≡ 2 ^ (rest.count - 1) * inner + 2 ^ (rest.count - 1) * inner
    twice =
        let z : 0 < rest.count = pos_of_ne-zero some in
        let q : rest.count ≡ suc (rest.count - 1) = omega arith in
        ap (λ n. 2 ^ n * inner) q ∙ ap (λ n. n * inner) (two-pow-succ (rest.count - 1))
        ∙ add-mul (2 ^ (rest.count - 1)) (2 ^ (rest.count - 1)) inner

    pub half_fits : {rows : ℕ} → rows ≡ 2 ^ (rest.count - 1) → rows * inner ≤ largest
    half_fits e = rw e (omega (arith, twice, s.small))

    module _ (rows : ℕ) (r : rows ≡ 2 ^ (rest.count - 1)) (start cut : ℕ) (b : start ≡ min from (rows * inner))
        (c : cut ≡ min (length words) (rows * inner - start)) (others : Point) (words_are : others.words.now ≡ drop (4 * 1) rest.words.now)
        (left : others.count ≡ rest.count - 1) where
      abbrev half : ℕ
      half = rows * inner

      e : half ≡ 2 ^ others.count * inner
      e = ap (λ n. n * inner) r ∙ ap (λ n. 2 ^ n * inner) (sym left)

      all : 2 ^ rest.count * inner ≡ half + half
      all = rw r twice

      b' : start ≡ from - (from - half)
      b' = omega (arith, b)

      c' : cut ≡ length words - (length words - (half - start))
      c' = omega (arith, c)

      cut_there : cut ≤ length words
      cut_there = omega (arith, c)

      pub low_scatters : {low : Element} → Reduced low → Scatters start others low (take cut words) out
      low_scatters reduced =
          let l : length (take cut words) ≡ cut = length-take-le cut words cut_there in
          record {
            weight_is = reduced;
            small = omega (arith, all, e, s.small);
            within = omega (arith, e, l, b, c);
            below = unreduced_take p p_pos cut words s.below;
            room = s.room;
            out_below = s.out_below;
          }

      pub high_scatters : {high : Element} {g : ℕ → Ext} {w : List ℕ} → Reduced high → Gained 0 inner g out w
          → Scatters (from - start) others high (after cut words) w
      high_scatters reduced d =
          let o : from + length words ≤ start + cut + half = omega (arith, b, c, all, s.within) in
          let l = left_over from (length words) start cut (omega (arith, b)) cut_there o in
          record {
            weight_is = reduced;
            small = rw d.len (omega (arith, all, e, s.small));
            within = rw (after_length cut words, d.len, sym e) l;
            below = after_below cut words s.below;
            room = rw d.len s.room;
            out_below = d.below s.out_below;
          }

      abbrev zs : List Ext
      zs = coordinates others

      both_halves : {z high low : Element} → Holds z (element_at rest.words.now 0)
          → Holds high (field.mul (from_words weight) (from_words z)) → Holds low (minus field (from_words weight) (from_words high))
          → (y : ℕ) → y < inner
          → field.add (fold_at field Prefix Plain inner zs (from_words low) (λ t. base (placed start (take cut words) t)) y)
          (fold_at field Prefix Plain inner zs (from_words high) (λ t. base (placed (from - start) (after cut words) t)) y)
          ≡ fold_at field Prefix Plain inner (coordinates rest) (from_words weight) (λ t. base (placed from words t)) y
      both_halves hz hh hl y h =
          let f : ℕ → Ext = λ t. base (placed from words t) in
          let q : half ≡ 2 ^ length zs * inner = e ∙ ap (λ n. 2 ^ n * inner) (sym (elements_length others.words.now 0 others.count)) in
          rw (read_as _ hl, read_as _ hh, read_as _ hz)
          (ap₂ field.add
          (prefix_ext field_ring inner zs _ _ f (λ t u. ap base (placed_low half from words start cut b' c' t (rw q u))) y h)
          (prefix_ext field_ring inner zs _ _ (λ t. f (2 ^ length zs * inner + t))
          (λ t u. ap base (placed_high half from words start cut b' c' t ∙ ap (λ n. placed from words (n + t)) q)) y h)
          ∙ sym (fold_step field_ring inner (element_at rest.words.now 0) zs (from_words weight) f y)
          ∙ ap (λ us. fold_at field Prefix Plain inner us (from_words weight) f y) (sym (first_and_others rest others words_are left some)))

      pub halves_joined : {z high low : Element} {w w' : List ℕ} → Holds z (element_at rest.words.now 0)
          → Holds high (field.mul (from_words weight) (from_words z)) → Holds low (minus field (from_words weight) (from_words high))
          → Scattered start others low (take cut words) out w → Scattered (from - start) others high (after cut words) w w'
          → Scattered from rest weight words out w'
      halves_joined hz hh hl d0 d1 = gained_as _ (added d0 (rw d0.len at d1)) (both_halves hz hh hl)
