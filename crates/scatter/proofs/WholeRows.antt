-- Whole rows: two and four by the weights that one and two coordinates make, thirty-two by a table of them. Assumes nothing.
use mathlib.Core.Path.{◌≡◌, sym, ap, ap₂, ◌∙◌}
use mathlib.Core.Bool.{false}
use Prim.Native.Nat.{ℕ, ◌+◌, ◌*◌, ◌^◌, ◌≤◌, ◌<◌}
use native.Mathlib.Nat.{add-mul, mul-le-mul_right}
use native.Mathlib.Omega.{arith}
use mathlib.Core.List.{List, [], ◌∷◌}
use lib.ListN.{get_or}
use Rattle.algebra.specs.Ring.{minus}
use Rattle.algebra.specs.Sum.{sum_to}
use Rattle.algebra.specs.Words.{unreduced}
use Rattle.algebra.proofs.Ring.{zero_add}
use Rattle.algebra.proofs.Sums.{sum_ext, sum_split}
use Rattle.multilinear.specs.declared.Side.TheVariants.{Prefix}
use Rattle.multilinear.specs.declared.Weight.TheVariants.{Plain}
use Rattle.multilinear.specs.Equality.{eq_at}
use Rattle.multilinear.specs.Folds.{fold_at}
use Rattle.multilinear.proofs.Weighed.{fold_step, fold_one}
use Rattle.field.specs.Field.{p, Ext, field, base, from_words, Holds}
use Rattle.field.specs.declared.Element.{Element}
use Rattle.field.proofs.Laws.{field_ring, read_as}
use Rattle.table.specs.Table.{table_words, element_at, elements}
use Rattle.table.specs.Gained.{Gained}
use Rattle.table.proofs.Laws.{table_at}
use Rattle.table.proofs.Gaining.{nothing, gained_as, added}
use Rattle.table.proofs.Parts.{after, after_word}
use Rattle.table.proofs.Tests.{reduced_at}
use Rattle.point.specs.declared.Point.{Point}
use Rattle.point.specs.Points.{coordinates}
use Rattle.kernel.specs.Kernel.{weighed, rows_at, row_term}
use Rattle.scatter.specs.Scatter.{whole_rows}

-- a fold over two rows
two : (inner : ℕ) (z w : Ext) (f : ℕ → Ext) (y : ℕ)
    → fold_at field Prefix Plain inner (z ∷ []) w f y
    ≡ field.add (field.mul (minus field w (field.mul w z)) (f (0 * inner + y))) (field.mul (field.mul w z) (f (1 * inner + y)))
two inner z w f y =
    let q : 2 ^ 0 * inner + y ≡ 1 * inner + y = omega arith in
    let r : y ≡ 0 * inner + y = omega arith in
    fold_step field_ring inner z [] w f y
    ∙ ap₂ field.add (fold_one field_ring inner _ f y ∙ ap (λ n. field.mul (minus field w (field.mul w z)) (f n)) r)
    (fold_one field_ring inner _ (λ t. f (2 ^ 0 * inner + t)) y ∙ ap (λ n. field.mul (field.mul w z) (f n)) q)

-- and over four
four : (inner : ℕ) (z0 z1 w : Ext) (f : ℕ → Ext) (y : ℕ)
    → let high = field.mul w z0 in
    let low = minus field w high in
    fold_at field Prefix Plain inner (z0 ∷ z1 ∷ []) w f y
    ≡ field.add
    (field.add
    (field.add (field.mul (minus field low (field.mul low z1)) (f (0 * inner + y))) (field.mul (field.mul low z1) (f (1 * inner + y))))
    (field.mul (minus field high (field.mul high z1)) (f (2 * inner + y)))) (field.mul (field.mul high z1) (f (3 * inner + y)))
four inner z0 z1 w f y =
    let q : 2 ^ 1 * inner + (1 * inner + y) ≡ 3 * inner + y = omega arith in
    let r : 2 ^ 1 * inner + (0 * inner + y) ≡ 2 * inner + y = omega arith in
    let high : Ext = field.mul w z0 in
    fold_step field_ring inner z0 (z1 ∷ []) w f y
    ∙ ap₂ field.add (two inner z1 (minus field w high) f y)
    (two inner z1 high (λ t. f (2 ^ 1 * inner + t)) y
    ∙ ap₂ (λ m n. field.add (field.mul (minus field high (field.mul high z1)) (f m)) (field.mul (field.mul high z1) (f n))) r q)
    ∙ sym (field_ring.add_assoc _ _ _)

-- the sum of one weight's word, of two and of four
module _ (a b : Element) (word : ℕ → ℕ) where
  abbrev by : Element → ℕ → Ext
  by w t = field.mul (from_words w) (base (word t))

  one_sum : weighed 1 (a ∷ []) word ≡ by a 0
  unfolding weighed sum_to
  one_sum = zero_add field_ring _

  two_sum : weighed 2 (a ∷ b ∷ []) word ≡ field.add (by a 0) (by b 1)
  unfolding weighed sum_to
  two_sum = ap (λ u. field.add u (by b 1)) (zero_add field_ring _)

  four_sum : (c d : Element)
      → weighed 4 (a ∷ b ∷ c ∷ d ∷ []) word ≡ field.add (field.add (field.add (by a 0) (by b 1)) (by c 2)) (by d 3)
  unfolding weighed sum_to
  four_sum c d = ap (λ u. field.add (field.add (field.add u (by b 1)) (by c 2)) (by d 3)) (zero_add field_ring _)

pub one_row_lem : (weight : Element) (n : ℕ) (words : List ℕ) (y : ℕ)
    → rows_at 1 (weight ∷ []) n words y ≡ field.mul (from_words weight) (base (get_or words y 0))
one_row_lem weight n words y =
    let q : 0 * n + y ≡ y = omega arith in
    one_sum weight weight _ ∙ ap (λ t. field.mul (from_words weight) (base (get_or words t 0))) q

-- whole rows of n coordinates
module _ (n : ℕ) (rest : Point) (left : rest.count ≡ n) (weight : Element) (inner : ℕ) (words : List ℕ) where
  abbrev rows_of : ℕ → Ext
  rows_of i = fold_at field Prefix Plain inner (elements rest.words.now 0 n) (from_words weight) (λ t. base (get_or words t 0)) i

  counted : (i : ℕ) → rows_of i ≡ whole_rows rest weight inner words i
  counted i =
      ap (λ m. fold_at field Prefix Plain inner (elements rest.words.now 0 m) (from_words weight) (λ t. base (get_or words t 0)) i)
      (sym left)

-- the weights of the rows
module _ (weight : Element) (rest : Point) (words : List ℕ) (inner : ℕ) {z0 high low : Element}
    (hz0 : Holds z0 (element_at rest.words.now 0)) (hh : Holds high (field.mul (from_words weight) (from_words z0)))
    (hl : Holds low (minus field (from_words weight) (from_words high))) where
  two_lem : (y : ℕ) → field.add (field.mul (from_words low) (base (get_or words (0 * inner + y) 0)))
      (field.mul (from_words high) (base (get_or words (1 * inner + y) 0)))
      ≡ fold_at field Prefix Plain inner (elements rest.words.now 0 1) (from_words weight) (λ t. base (get_or words t 0)) y
  unfolding elements
  two_lem y = rw (read_as _ hl, read_as _ hh, read_as _ hz0) (sym (two inner _ _ (λ t. base (get_or words t 0)) y))

  pub two_rows_lem : rest.count ≡ 1 → (y : ℕ) → rows_at 2 (low ∷ high ∷ []) inner words y ≡ whole_rows rest weight inner words y
  two_rows_lem e y = two_sum low high _ ∙ two_lem y ∙ counted 1 rest e weight inner words y

  module _ {z1 w1 w3 w0 w2 : Element} (hz1 : Holds z1 (element_at rest.words.now 1))
      (h1 : Holds w1 (field.mul (from_words low) (from_words z1))) (h3 : Holds w3 (field.mul (from_words high) (from_words z1))) (h0 : Holds w0 (minus field (from_words low) (from_words w1)))
      (h2 : Holds w2 (minus field (from_words high) (from_words w3))) where
    four_lem : (y : ℕ) → field.add
        (field.add
        (field.add (field.mul (from_words w0) (base (get_or words (0 * inner + y) 0)))
        (field.mul (from_words w1) (base (get_or words (1 * inner + y) 0))))
        (field.mul (from_words w2) (base (get_or words (2 * inner + y) 0))))
        (field.mul (from_words w3) (base (get_or words (3 * inner + y) 0)))
        ≡ fold_at field Prefix Plain inner (elements rest.words.now 0 2) (from_words weight) (λ t. base (get_or words t 0)) y
    unfolding elements
    four_lem y =
        rw (read_as _ h0, read_as _ h2, read_as _ h1, read_as _ h3, read_as _ hl, read_as _ hh, read_as _ hz0, read_as _ hz1)
        (sym (four inner _ _ _ (λ t. base (get_or words t 0)) y))

    pub four_rows_lem : rest.count ≡ 2 → (y : ℕ)
        → rows_at 4 (w0 ∷ w1 ∷ w2 ∷ w3 ∷ []) inner words y ≡ whole_rows rest weight inner words y
    four_rows_lem e y = four_sum w0 w1 _ w2 w3 ∙ four_lem y ∙ counted 2 rest e weight inner words y

-- four of thirty-two rows are there from row 4 j on
pub four_within : (inner j n : ℕ) → j < 8 → 32 * inner ≤ n → 4 * j * inner + 4 * inner ≤ n
four_within inner j n more all =
    let m : (4 * j + 4) * inner ≤ 32 * inner = mul-le-mul_right inner (omega arith) in
    omega (arith, add-mul (4 * j) 4 inner)

-- the rows' sum by a table of their weights, four rows at a time
module _ (weights words : List ℕ) (inner : ℕ) where
  abbrev term : ℕ → ℕ → Ext
  term = row_term weights inner words

  pub no_rows : (out : List ℕ) → unreduced p out ≡ false → Gained 0 inner (λ i. sum_to field (4 * 0) (term i)) out out
  unfolding sum_to
  no_rows out r = nothing 0 inner out (λ y h. reduced_at out r (0 + y))

  module _ (j : ℕ) where
    row : (a i : ℕ) (e : Element) → Holds e (element_at weights (4 * j + a))
        → field.mul (from_words e) (base (get_or (after (4 * j * inner) words) (a * inner + i) 0)) ≡ term i (4 * j + a)
    unfolding row_term
    row a i e d =
        let r : 4 * j * inner + (a * inner + i) ≡ (4 * j + a) * inner + i = omega (arith, add-mul (4 * j) a inner) in
        ap₂ (λ u v. field.mul u (base v)) (read_as _ d) (after_word (4 * j * inner) words (a * inner + i) ∙ ap (λ n. get_or words n 0) r)

    pub four_more : {a0 a1 a2 a3 : Element} {ws w w' : List ℕ} → Gained 0 inner (λ i. sum_to field (4 * j) (term i)) ws w
        → Holds a0 (element_at weights (4 * j)) → Holds a1 (element_at weights (4 * j + 1))
        → Holds a2 (element_at weights (4 * j + 2)) → Holds a3 (element_at weights (4 * j + 3))
        → Gained 0 inner (rows_at 4 (a0 ∷ a1 ∷ a2 ∷ a3 ∷ []) inner (after (4 * j * inner) words)) w w'
        → Gained 0 inner (λ i. sum_to field (4 * (j + 1)) (term i)) ws w'
    unfolding weighed sum_to
    four_more {a0} {a1} {a2} {a3} d e0 e1 e2 e3 g =
        let q : 4 * j + 4 ≡ 4 * (j + 1) = omega arith in
        let z : 4 * j ≡ 4 * j + 0 = omega arith in
        gained_as _ (added d g) (λ i h.
        ap (field.add (sum_to field (4 * j) (term i)))
        (ap₂ field.add
        (ap₂ field.add
        (ap₂ field.add (ap (field.add field.zero) (row 0 i a0 (rw z at e0))) (row 1 i a1 e1))
        (row 2 i a2 e2))
        (row 3 i a3 e3))
        ∙ sym (sum_split field_ring 4 (4 * j) (term i)) ∙ ap (λ n. sum_to field n (term i)) q)

  -- all thirty-two rows, by the table of weight·eq of five coordinates
  pub all_rows : (weight : Element) (rest : Point) {ws w : List ℕ} → rest.count ≡ 5
      → weights ≡ table_words (2 ^ rest.count) (λ y. field.mul (from_words weight) (eq_at field (coordinates rest) y))
      → Gained 0 inner (λ i. sum_to field 32 (term i)) ws w → Gained 0 inner (whole_rows rest weight inner words) ws w
  unfolding fold_at row_term elements
  all_rows weight rest five t d =
      let table = rw five at t in
      gained_as _ d (λ i h.
      sum_ext field_ring 32 _ _ (λ y b.
      ap (λ e. field.mul e (base (get_or words (y * inner + i) 0))) (ap (λ ws. element_at ws y) table ∙ table_at 32 _ y b))
      ∙ counted 5 rest five weight inner words i)
