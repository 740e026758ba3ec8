-- Long rows by the table of their weights times 2⁶⁴: the table, and what it brings. Assumes nothing.
use Rattle.std.proofs.Common.{◌≡◌, false, ℕ, ◌+◌, ◌-◌, ◌*◌, ◌/◌, ◌^◌, ◌≤◌, ◌<◌, length, get_or, List, [], ◌∷◌, sym, ap, ◌∙◌, arith}
use Rattle.std.proofs.Math.Nat.{pow-le-pow_right}
use Rattle.std.proofs.lemmas.Nat.{pow-add, pow_pos}
use Rattle.algebra.specs.Sum.{sum_to}
use Rattle.algebra.specs.Words.{unreduced}
use Rattle.algebra.proofs.Reading.{reading, ring}
use Rattle.algebra.proofs.Sums.{sum_ext, sum_scale}
use Rattle.multilinear.specs.Equality.{eq_at}
use Rattle.multilinear.specs.Folds.{fold_at}
use Rattle.field.specs.Field.{p, Ext, field, base, from_words, Holds}
use Rattle.field.specs.Inner.{unit}
use Rattle.field.specs.declared.Element.{Element}
use Rattle.field.proofs.Laws.{field_ring, read_as}
use Rattle.lowering.specs.Lowering.{unit_inverse}
use Rattle.lowering.proofs.Laws.{raised_twice}
use Rattle.table.specs.Table.{table_words, element_at, entries}
use Rattle.table.specs.Gained.{Gained}
use Rattle.table.proofs.Laws.{elements_length, table_at, table_length}
use Rattle.table.proofs.Gaining.{gained_as}
use Rattle.table.proofs.Tests.{unreduced_table}
use Rattle.point.specs.declared.Point.{Point}
use Rattle.point.specs.Points.{coordinates}
use Rattle.kernel.specs.Kernel.{Groups, Tabled, row_term, row_sum}
use Rattle.scatter.specs.Scatter.{whole_rows}

-- 2^k is at least 32, at most 256 and by sixteens with four words each
pub powers : (k : ℕ) → 5 ≤ k → k ≤ 8 → (2 ^ k ≤ 256) × (0 < 2 ^ k) × (4 * 2 ^ k ≡ 16 * (4 * 2 ^ k / 16))
powers k a b =
    let most : 2 ^ k ≤ 2 ^ 8 = pow-le-pow_right {n = 2} (omega arith) b in
    let q : k - 5 + 5 ≡ k = omega arith in
    let split : 2 ^ k ≡ 2 ^ (k - 5) * 2 ^ 5 = sym (ap (λ m. 2 ^ m) q) ∙ pow-add 2 (k - 5) 5 in
    (omega (arith, most), pow_pos k, omega (arith, split))

module _ (rest : Point) (weight : Element) (words out : List ℕ) {e1 e2 : Element}
    (h1 : Holds e1 (field.mul (from_words weight) (base unit))) (h2 : Holds e2 (field.mul (from_words e1) (base unit)))
    (weights : List ℕ) (t : weights ≡ table_words (2 ^ rest.count) (λ y. field.mul (from_words e2) (eq_at field (coordinates rest) y))) where
  abbrev rows : ℕ
  rows = 2 ^ rest.count

  abbrev eq : ℕ → Ext
  eq = eq_at field (coordinates rest)

  size : length weights ≡ 4 * rows
  size = ap length t ∙ table_length rows _

  pub tabled : 5 ≤ rest.count → rest.count ≤ 8 → Groups rows 0 (entries out) out words → unreduced p out ≡ false
      → Tabled weights words out
  tabled a b g below =
      let q = powers rest.count a b in
      let count : rows ≡ length weights / 4 = omega (arith, size) in
      record {
        fours = rw size (q.2);
        some = omega (arith, size, q.1);
        few = omega (arith, size, q.0);
        table_below = ap (unreduced p) t ∙ unreduced_table rows _;
        rows_are = rw count at g;
        out_below = below;
      }

  -- a row's term, divided by 2⁶⁴
  one : (x w : Ext) → field.mul (field.mul (field.mul (from_words e2) x) w) (base (unit_inverse * unit_inverse))
      ≡ field.mul (field.mul (from_words weight) x) w
  one x w =
      ap (λ (e : Ext). field.mul (field.mul (field.mul e x) w) (base (unit_inverse * unit_inverse)))
      (read_as _ h2 ∙ ap (λ (e : Ext). field.mul e (base unit)) (read_as _ h1))
      ∙ swapped (from_words weight) (base unit) x w (base (unit_inverse * unit_inverse))
      ∙ ap (field.mul _) raised_twice
      ∙ field_ring.mul_one _
    where
      swapped : (s u x w b : Ext) → field.mul (field.mul (field.mul (field.mul (field.mul s u) u) x) w) b
          ≡ field.mul (field.mul (field.mul s x) w) (field.mul (field.mul u u) b)
      swapped s u x w b = reading field_ring (s ∷ u ∷ x ∷ w ∷ b ∷ []) λ q. simp (ring, q, q.at 0, q.at 1, q.at 2, q.at 3, q.at 4) (q.close tt)

  module _ (n i : ℕ) where
    term : (y : ℕ) → y < rows → field.mul (base (unit_inverse * unit_inverse)) (row_term weights n words i y)
        ≡ field.mul (field.mul (from_words weight) (eq y)) (base (get_or words (y * n + i) 0))
    unfolding row_term
    term y h =
        field_ring.mul_comm _ _
        ∙ ap (λ e. field.mul (field.mul e (base (get_or words (y * n + i) 0))) (base (unit_inverse * unit_inverse)))
        (ap (λ ws. element_at ws y) t ∙ table_at rows _ y h)
        ∙ one (eq y) (base (get_or words (y * n + i) 0))

    brought : row_sum weights n words i ≡ whole_rows rest weight n words i
    unfolding fold_at
    brought =
        let count : length weights / 4 ≡ rows = omega (arith, size) in
        let k : rows ≡ 2 ^ length (coordinates rest) = ap (λ m. 2 ^ m) (sym (elements_length rest.words.now 0 rest.count)) in
        field_ring.mul_comm _ _
        ∙ ap (λ m. field.mul (base (unit_inverse * unit_inverse)) (sum_to field m (row_term weights n words i))) count
        ∙ sym (sum_scale field_ring rows (base (unit_inverse * unit_inverse)) (row_term weights n words i))
        ∙ sum_ext field_ring rows _ _ term
        ∙ ap (λ m. sum_to field m (λ y. field.mul (field.mul (from_words weight) (eq y)) (base (get_or words (y * n + i) 0)))) k

  pub long_gained : {w : List ℕ} → Gained 0 (entries out) (row_sum weights (entries out) words) out w
      → Gained 0 (entries out) (whole_rows rest weight (entries out) words) out w
  long_gained d = gained_as _ d (λ i h. brought (entries out) i)
