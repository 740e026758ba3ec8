-- The two tables of a work buffer, and the weights that they make. Assumes nothing.
use mathlib.Core.Path.{◌≡◌, sym, ap, ap₂, ◌∙◌}
use mathlib.Core.Bool.{false}
use Prim.Native.Nat.{ℕ, ◌+◌, ◌*◌, ◌/◌, ◌%◌, ◌^◌, ◌≤◌, ◌<◌}
use native.Mathlib.Nat.{zero-add, mod-lt, mul-le-mul_right, suc-mul}
use native.Mathlib.Omega.{arith}
use mathlib.Core.List.{List, ◌++◌}
use lib.ListN.{length, take, drop, length-append, length-drop}
use lib.Pow.{pow-add, pow_pos, shr_lt, high, low}
use lib.Seq.{drop_at, length-take-le}
use Rattle.algebra.specs.Words.{unreduced}
use Rattle.algebra.proofs.Words.{unreduced_append, unreduced_take, unreduced_drop}
use Rattle.multilinear.specs.Equality.{eq_at}
use Rattle.multilinear.proofs.Split.{weight_split}
use Rattle.field.specs.Field.{p, p_pos, Ext, field, from_words, Holds}
use Rattle.field.specs.declared.Element.{Element}
use Rattle.field.proofs.Laws.{field_ring, read_as, read_back}
use Rattle.table.specs.Table.{element_at, elements, table_words}
use Rattle.table.specs.Refusals.{most}
use Rattle.table.proofs.Laws.{elements_length, table_at, table_get, table_length}
use Rattle.table.proofs.Parts.{elements_append, get_drop, get_take}
use Rattle.table.proofs.Tests.{unreduced_table}
use Rattle.work.specs.Work.{first, others, work_words}
use Rattle.work.specs.Inner.{Tables, Apart, row_weight}

-- the coordinates of both tables are all
pub together : (k : ℕ) → first k + others k ≡ k
together k = omega arith

-- and so are the pairs of their rows
pub rows_of : (k : ℕ) → 2 ^ first k * 2 ^ others k ≡ 2 ^ k
rows_of k = sym (pow-add 2 (first k) (others k)) ∙ ap (λ n. 2 ^ n) (together k)

-- the rows of eq0 and of eq1 that row y reads
pub high_row : (k y : ℕ) → y < 2 ^ k → y / 2 ^ others k < 2 ^ first k
high_row k y h = shr_lt (first k) (others k) (rw (together k) h)

pub low_row : (k y : ℕ) → y % 2 ^ others k < 2 ^ others k
low_row k y = mod-lt y (pow_pos (others k))

-- the two tables, lent apart
pub apart : (k : ℕ) (work : List ℕ) → Tables k work → (n0 : ℕ) → n0 ≡ 2 ^ first k → {eq0 eq1 : List ℕ} → eq0 ≡ take (4 * n0) work
    → eq1 ≡ drop (4 * n0) work → Apart k work eq0 eq1
apart k work is n0 q e₀ e₁ =
    let within : 4 * 2 ^ first k ≤ length work = omega (arith, is.size) in
    rw (e₀, e₁, q)
    (record {
      first_size = length-take-le (4 * 2 ^ first k) work within;
      others_size = omega (arith, is.size, length-drop (4 * 2 ^ first k) work);
      first_below = unreduced_take p p_pos (4 * 2 ^ first k) work is.below;
      others_below = unreduced_drop p p_pos (4 * 2 ^ first k) work is.below;
      first_at = λ j b. ap from_words (get_take (2 ^ first k) j work b);
      others_at = λ j. ap from_words (get_drop (2 ^ first k) j work);
    })

-- the rows that a weight reads are there, of as many rows as eq1 has
module _ (k : ℕ) {work eq0 eq1 : List ℕ} (d : Apart k work eq0 eq1) (y : ℕ) where
  others_rows : length eq1 / 4 ≡ 2 ^ others k
  others_rows = omega (arith, d.others_size)

  pub high_place : y < 2 ^ k → 4 * (y / (length eq1 / 4)) + 3 < length eq0
  high_place h = rw others_rows (omega (arith, d.first_size, high_row k y h))

  -- of the values that the calls give
  pub weight_of : y < 2 ^ k → {a b e : Element} → Holds a (element_at eq0 (y / (length eq1 / 4)))
      → Holds b (element_at eq1 (y % (length eq1 / 4))) → Holds e (field.mul (from_words a) (from_words b))
      → Holds e (row_weight k work y)
  unfolding row_weight
  weight_of h {a} {b} e₁ e₂ e₃ =
      rw (read_as _ e₁, read_as _ e₂, others_rows, d.first_at _ (high_row k y h), d.others_at (y % 2 ^ others k)) at e₃

-- block h lies within the rows
pub edge : (k h : ℕ) → h < 2 ^ first k → h * 2 ^ others k + 2 ^ others k ≤ 2 ^ k
edge k h b = omega (arith, rows_of k, mul-le-mul_right (2 ^ others k) b, suc-mul h (2 ^ others k))

-- row y of block h has the product of their two entries
pub block_weight : (k h y : ℕ) (work : List ℕ) → y < 2 ^ others k
    → row_weight k work (h * 2 ^ others k + y) ≡ field.mul (element_at work h) (element_at work (2 ^ first k + y))
unfolding row_weight
block_weight k h y work b =
    ap₂ (λ a c. field.mul (element_at work a) (element_at work (2 ^ first k + c))) (high h (others k) b) (low h (others k) b)

-- the words of both tables
module _ (k : ℕ) (point : List ℕ) (scale : Ext) where
  abbrev us : List Ext
  us = elements point 0 (first k)

  abbrev vs : List Ext
  vs = elements point (first k) (others k)

  abbrev eq0 : ℕ → Ext
  eq0 y = field.mul scale (eq_at field us y)

  pub work_length : length (work_words k point scale) ≡ 4 * (2 ^ first k + 2 ^ others k)
  unfolding work_words
  work_length = omega (arith, length-append {A = ℕ}, table_length)

  work_below : unreduced p (work_words k point scale) ≡ false
  unfolding work_words
  work_below = unreduced_append p _ _ (unreduced_table _ _) (unreduced_table _ _)

  pub tables : k ≤ most → Tables k (work_words k point scale)
  tables few = record { few = few; size = work_length; below = work_below }

  first_entry : (y : ℕ) → y < 2 ^ first k → element_at (work_words k point scale) y ≡ eq0 y
  unfolding work_words
  first_entry y h = ap from_words (table_get (2 ^ first k) eq0 _ y h) ∙ read_back _

  second_entry : (y : ℕ) → y < 2 ^ others k → element_at (work_words k point scale) (2 ^ first k + y) ≡ eq_at field vs y
  unfolding work_words
  second_entry y h =
      let xs = table_words (2 ^ first k) eq0 in
      let ys = table_words (2 ^ others k) (eq_at field vs) in
      ap from_words (sym (get_drop (2 ^ first k) y (xs ++ ys)))
      ∙ ap (λ ws. element_at ws y) (drop_at xs ys (4 * 2 ^ first k) (table_length (2 ^ first k) eq0))
      ∙ table_at (2 ^ others k) (eq_at field vs) y h

  parts : us ++ vs ≡ elements point 0 k
  parts =
      ap (λ a. us ++ elements point a (others k)) (sym (zero-add (first k))) ∙ sym (elements_append point 0 (first k) (others k))
      ∙ ap (elements point 0) (together k)

  -- a row's weight is the scale times eq of the whole point
  pub row_weight_lem : (y : ℕ) → y < 2 ^ k → row_weight k (work_words k point scale) y ≡ field.mul scale (eq_at field (elements point 0 k) y)
  unfolding row_weight
  row_weight_lem y h =
      ap₂ field.mul (first_entry (y / 2 ^ others k) (high_row k y h)) (second_entry (y % 2 ^ others k) (low_row k y))
      ∙ rw (elements_length point (first k) (others k)) at (weight_split field_ring us vs scale y)
      ∙ ap (λ zs. field.mul scale (eq_at field zs y)) parts
