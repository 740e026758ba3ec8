-- The sums of places in runs: what is read where it was put, what four rows add, and what the sums over all rows are. Assumes nothing.
use Rattle.std.proofs.Common.{◌≡◌, ◌≢◌, ℕ, zero, suc, ◌+◌, ◌-◌, ◌*◌, ◌/◌, ◌%◌, ◌<◌, ◌≤◌, slice_set, get_or, length, replicate, List, [], ◌∷◌, refl, sym, subst, ap, ap₂, ◌∙◌, arith, add-one, rules, All}
use Rattle.std.proofs.Math.Nat.{mul-le-mul_right, add-mul}
use lib.ListN.{length-set}
use Rattle.std.proofs.lemmas.List.{get_or-set_same, get_or-set_other}
use Rattle.algebra.specs.Words.{words_of, numbers}
use Rattle.algebra.specs.Residue.{reduce, residues}
use Rattle.algebra.specs.Quartic.{quartic}
use Rattle.algebra.specs.Sum.{sum_to}
use Rattle.algebra.proofs.Words.{below}
use Rattle.algebra.proofs.Numbers.{numbers_scale}
use Rattle.algebra.proofs.Sums.{sum_ext}
use Rattle.field.specs.Field.{p, p_pos, factor, Ext, field, base, to_words, from_words, Holds, Reduced, at}
use Rattle.field.specs.declared.Element.{Element}
use Rattle.field.proofs.Laws.{field_ring, holds}
use Rattle.field.proofs.Multiples.{numbers_gain}
use Rattle.lowering.specs.Lowering.{unit_inverse}
use Rattle.table.specs.Table.{get_at, element_at, entries}
use Rattle.table.specs.Gained.{Gained}
use Rattle.table.proofs.Gaining.{blocks}
use Rattle.table.proofs.Parts.{after, after_length, after_below, after_word}
use Rattle.dots.specs.declared.halves.Halves.{Halves}
use Rattle.dots.specs.Inner.{low, value, Within, Grown, most_gains}
use Rattle.dots.proofs.Summing.{kept_none, kept_room, kept_more}
use Rattle.kernel.specs.Kernel.{Tabled, row_term, row_sum}
use Rattle.kernel.specs.Inner.{products, There, block, stride, cell_at, cell, GrownCell, GrownPlaces, Open, Space, Columns, Rows, four_products, total, Cleared, Totals, brought}

-- a sum that is put
module _ (s : List ℕ) (k i : ℕ) (h : Halves) where
  abbrev put : List ℕ
  put = slice_set (slice_set s (cell_at k i) h.all) (cell_at k i + stride) h.hi

  put_same : cell_at k i + stride < length s → cell put k i ≡ h
  unfolding cell
  put_same l =
      let there : cell_at k i < length s = omega arith in
      let once : List ℕ = slice_set s (cell_at k i) h.all in
      ap₂ (λ a b. let r : Halves = record { all = a; hi = b } in r)
      (get_or-set_other once (cell_at k i + stride) (cell_at k i) h.hi 0 (λ q. absurd (omega arith))
      ∙ get_or-set_same s (cell_at k i) h.all 0 there)
      (get_or-set_same once (cell_at k i + stride) h.hi 0 (omega (arith, length-set s (cell_at k i) h.all)))

  put_other : i < stride → (l j : ℕ) → j < stride → cell_at l j ≢ cell_at k i → cell put l j ≡ cell s l j
  unfolding cell
  put_other hi l j hj d =
      let once : List ℕ = slice_set s (cell_at k i) h.all in
      ap₂ (λ a b. let r : Halves = record { all = a; hi = b } in r)
      (get_or-set_other once (cell_at k i + stride) (cell_at l j) h.hi 0 (λ q. absurd (omega arith))
      ∙ get_or-set_other s (cell_at k i) (cell_at l j) h.all 0 d)
      (get_or-set_other once (cell_at k i + stride) (cell_at l j + stride) h.hi 0 (λ q. d (omega arith))
      ∙ get_or-set_other s (cell_at k i) (cell_at l j + stride) h.all 0 (λ q. absurd (omega arith)))

  pub grown_cell : (x : ℕ) {g : Halves} → i < block → cell_at k i + stride < length s → g ≡ cell s k i → Grown g x h
      → GrownCell k i x s put
  grown_cell x b l e grown =
      record {
        grown = rw (put_same l) (rw e at grown);
        other_runs = λ a j hj d. put_other (omega arith) a j hj (λ q. d (omega arith));
        other_places = λ a j hj d. put_other (omega arith) a j hj (λ q. d (omega arith));
      }

-- zeros hold nothing
zero_at : (n i : ℕ) → ◌≡◌ {A = ℕ} (get_or (replicate n 0) i 0) 0
zero_at zero i = refl
zero_at (suc n) zero = refl
zero_at (suc n) (suc i) = zero_at n i

abbrev empty : Halves
empty = record { all = 0; hi = 0 }

nothing : (value empty ≡ 0) × Within 0 empty
unfolding low value Within
nothing = (refl, (omega arith, omega arith))

pub cleared : (n : ℕ) → Cleared (replicate n 0)
unfolding cell
cleared n =
    record {
      each = λ k i.
          let q : cell (replicate n 0) k i ≡ empty =
          ap₂ (λ a b. let r : Halves = record { all = a; hi = b } in r) (zero_at n (cell_at k i)) (zero_at n (cell_at k i + stride)) in
          subst (λ h. (value h ≡ 0) × Within 0 h) (sym q) nothing;
    }

-- a word of each of four rows
pub column_there : {count n i : ℕ} {words : List ℕ} → Columns count n words → i < count → There 4 words (record { first = i; apart = n })
column_there {n} c h =
    record {
      within = λ t l. let m : t * n ≤ 3 * n = mul-le-mul_right n (omega arith) in omega (arith, c.there);
      below = below p _ c.below p_pos;
    }

-- the next place is as it was
pub still_open : {count i : ℕ} {xs : ℕ → ℕ → ℕ} {s w : List ℕ} → GrownPlaces i xs s w → Space count s → i < count → Open i w
still_open {i} g r h =
    let few = r.few in
    record { few = omega arith; within = λ k l. subst (Within most_gains) (sym (g.later i k (omega arith) (omega arith))) ((r.each i h).within k l) }

-- coordinate k of place i: a row more, and four
module _ (table : List ℕ) (n : ℕ) (words : List ℕ) (i k : ℕ) where
  abbrev sum : ℕ → ℕ
  sum = total table n words i k

  abbrev row : ℕ → ℕ
  row y = at (get_at table y) k * get_or words (y * n + i) 0

  one_more : (m y : ℕ) → m ≡ y + 1 → sum m ≡ sum y + row y
  unfolding total
  one_more m y e = ap sum e ∙ rw add-one refl

  regroup : (s a b c d : ℕ) → s + a + b + c + d ≡ s + (0 + a + b + c + d)
  regroup s a b c d = omega arith

  module _ (j : ℕ) where
    four_rows : sum (4 * (j + 1)) ≡ sum (4 * j) + (0 + row (4 * j) + row (4 * j + 1) + row (4 * j + 2) + row (4 * j + 3))
    four_rows =
        one_more _ (4 * j + 3) (omega arith)
        ∙ ap (λ x. x + row (4 * j + 3))
        (one_more _ (4 * j + 2) (omega arith)
        ∙ ap (λ x. x + row (4 * j + 2))
        (one_more _ (4 * j + 1) (omega arith) ∙ ap (λ x. x + row (4 * j + 1)) (one_more _ (4 * j) (omega arith))))
        ∙ regroup (sum (4 * j)) (row (4 * j)) (row (4 * j + 1)) (row (4 * j + 2)) (row (4 * j + 3))

    module _ {e0 e1 e2 e3 : Element} (q0 : e0 ≡ get_at table (4 * j)) (q1 : e1 ≡ get_at table (4 * j + 1)) (q2 : e2 ≡ get_at table (4 * j + 2))
        (q3 : e3 ≡ get_at table (4 * j + 3)) where
      by : (a y : ℕ) {e : Element} → y ≡ 4 * j + a → e ≡ get_at table y
          → at e k * get_or (after (4 * j * n) words) (a * n + i) 0 ≡ row y
      by a y r q =
          let place : 4 * j * n + (a * n + i) ≡ y * n + i = rw r (omega (arith, add-mul (4 * j) a n)) in
          ap₂ ◌*◌ (ap (λ x. at x k) q) (after_word (4 * j * n) words (a * n + i) ∙ ap (λ m. get_or words m 0) place)

      pub four_totals : sum (4 * (j + 1)) ≡ sum (4 * j) + four_products (e0 ∷ e1 ∷ e2 ∷ e3 ∷ []) n (after (4 * j * n) words) i k
      unfolding products
      four_totals =
          four_rows
          ∙ ap (λ x. sum (4 * j) + x)
          (sym
          (ap₂ ◌+◌
          (ap₂ ◌+◌ (ap₂ ◌+◌ (ap (λ x. 0 + x) (by 0 (4 * j) (omega arith) q0)) (by 1 (4 * j + 1) refl q1)) (by 2 (4 * j + 2) refl q2))
          (by 3 (4 * j + 3) refl q3)))

module _ (count n : ℕ) (words table : List ℕ) where
  pub no_rows : {sums : List ℕ} → Cleared sums → Totals count n words table 0 sums
  unfolding total
  no_rows c = record { each = λ i k h l. kept_none _ refl (c.each k i) }

  module _ (r : Rows count n words table) (j : ℕ) where
    module _ (more : j < length table / 16) where
      rows_within : 4 * j * n + 4 * n ≤ length table / 4 * n
      rows_within =
          let fours = r.fours in
          let m : (4 * j + 4) * n ≤ length table / 4 * n = mul-le-mul_right n (omega arith) in
          omega (arith, add-mul (4 * j) 4 n)

      pub four_columns : Columns count n (after (4 * j * n) words)
      four_columns =
          record {
            there = omega (arith, rows_within, r.there, after_length (4 * j * n) words);
            below = after_below (4 * j * n) words r.words_below;
          }

    module _ {sums : List ℕ} (t : Totals count n words table j sums) where
      pub totals_space : j ≤ length table / 16 → Space count sums
      totals_space h =
          let few = r.few in
          let most = r.most in
          record {
            few = few;
            each = λ i b. record { few = omega arith; within = λ k l. kept_room _ j (t.each i k b l) (omega arith) };
          }

      pub four_more : {e0 e1 e2 e3 : Element} {w : List ℕ} → e0 ≡ get_at table (4 * j) → e1 ≡ get_at table (4 * j + 1)
          → e2 ≡ get_at table (4 * j + 2) → e3 ≡ get_at table (4 * j + 3)
          → GrownPlaces count (four_products (e0 ∷ e1 ∷ e2 ∷ e3 ∷ []) n (after (4 * j * n) words)) sums w
          → Totals count n words table (j + 1) w
      four_more q0 q1 q2 q3 g =
          record {
            each = λ i k b l.
                kept_more _ j (t.each i k b l) 1 _ (omega arith) (four_totals table n words i k j q0 q1 q2 q3) (g.grown i k b l);
          }

-- what is divided by 2³² twice, coordinate by coordinate
pub brought_law : (sums : List ℕ) (i : ℕ) {r0 r1 r2 r3 : ℕ} → r0 ≡ value (cell sums 0 i) * (unit_inverse * unit_inverse) % p
    → r1 ≡ value (cell sums 1 i) * (unit_inverse * unit_inverse) % p → r2 ≡ value (cell sums 2 i) * (unit_inverse * unit_inverse) % p
    → r3 ≡ value (cell sums 3 i) * (unit_inverse * unit_inverse) % p
    → Holds (record { c = r0 ∷ r1 ∷ r2 ∷ r3 ∷ [] }) (brought sums i)
unfolding brought to_words words_of numbers reduce field base
brought_law sums i q0 q1 q2 q3 =
    holds _ (rw (q0, q1, q2, q3) (ap to_words (numbers_scale p p_pos factor _ _ _ _ (unit_inverse * unit_inverse) 0 0 0)))

-- the element of the totals is the field's sum
module _ (table : List ℕ) (n : ℕ) (words : List ℕ) (i : ℕ) where
  abbrev element : ℕ → Ext
  element m = numbers p p_pos (total table n words i 0 m) (total table n words i 1 m) (total table n words i 2 m) (total table n words i 3 m)

  no_row : element 0 ≡ field.zero
  unfolding total numbers field quartic residues reduce
  no_row = refl

  row_more : (m : ℕ) → element (suc m) ≡ field.add (element m) (row_term table n words i m)
  unfolding total row_term from_words
  row_more m = numbers_gain _ _ _ _ _ _ _ _ (get_or words (m * n + i) 0)

  totals_law : (m : ℕ) → element m ≡ sum_to field m (row_term table n words i)
  unfolding sum_to
  totals_law zero = no_row
  totals_law (suc m) = row_more m ∙ ap (λ (x : Ext). field.add x (row_term table n words i m)) (totals_law m)

-- a block of places from place `from` on
module _ (table : List ℕ) (n : ℕ) (words : List ℕ) (from : ℕ) where
  row_moved : (i y : ℕ) → row_term table n (after from words) i y ≡ row_term table n words (from + i) y
  unfolding row_term
  row_moved i y =
      let place : from + (y * n + i) ≡ y * n + (from + i) = omega arith in
      ap (λ x. field.mul (element_at table y) (base x)) (after_word from words (y * n + i) ∙ ap (λ m. get_or words m 0) place)

  pub block_law : {count i : ℕ} {sums : List ℕ} → length table ≡ 16 * (length table / 16)
      → Totals count n (after from words) table (length table / 16) sums → i < count → brought sums i ≡ row_sum table n words (from + i)
  unfolding brought
  block_law {i} fours t h =
      let q : 4 * (length table / 16) ≡ length table / 4 = omega arith in
      let is = λ (k : ℕ) (l : k < 4). (t.each i k h l).is ∙ ap (total table n (after from words) i k) q in
      ap (λ x. field.mul x (base (unit_inverse * unit_inverse)))
      (rw (is 0 (omega arith), is 1 (omega arith), is 2 (omega arith), is 3 (omega arith)) (totals_law table n (after from words) i (length table / 4))
      ∙ sum_ext field_ring (length table / 4) _ _ (λ y b. row_moved i y))

  pub block_rows : {out : List ℕ} (count : ℕ) → Tabled table words out → n ≡ entries out → from + count ≤ n → count ≤ block
      → Rows count n (after from words) table
  block_rows {out} count g e l b =
      let there : length table / 4 * n ≤ length words = rw e g.rows_are.there in
      let some = g.some in
      let fours = g.fours in
      let all : 1 * n ≤ length table / 4 * n = mul-le-mul_right n (omega arith) in
      record {
        few = b;
        fours = fours;
        most = g.few;
        within = omega arith;
        there = omega (arith, after_length from words);
        words_below = after_below from words g.rows_are.words_below;
        table_below = g.table_below;
      }

-- four reduced elements
pub four_reduced : {e0 e1 e2 e3 : Element} → Reduced e0 → Reduced e1 → Reduced e2 → Reduced e3 → All Reduced (e0 ∷ e1 ∷ e2 ∷ e3 ∷ [])
four_reduced r0 r1 r2 r3 = search rules

-- the places before `from`, and then those to before `end`
pub next_block : {from end : ℕ} {f g : ℕ → Ext} {ws w w' : List ℕ} → from ≤ end → Gained 0 from g ws w → Gained from (end - from) f w w'
    → ((y : ℕ) → y < end - from → f y ≡ g (from + y)) → Gained 0 end g ws w'
next_block {from} {end} {f} {g} {ws} {w} {w'} l a b e =
    let first : from ≡ 0 + from = omega arith in
    let all : from + (end - from) ≡ end = omega arith in
    rw all at (blocks 0 from (end - from) f g ws w w' a (subst (λ m. Gained m (end - from) f w w') first b) e)
