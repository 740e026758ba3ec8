-- For every point and other that `eval_next` accepts, the table of the point's weights, evaluated by `eval_ext` at the other, is done and one
-- more of `eval_next`'s parts: omega for the next weights, carry for the cyclic ones (specs/Agreement.antt). Assumes nothing.
use mathlib.Core.Path.{◌≡◌, refl, sym, ap, ap₂, ◌∙◌}
use Prim.Native.Nat.{ℕ, zero, suc, ◌*◌, ◌^◌, ◌≤◌, ◌<◌}
use native.Mathlib.Omega.{arith}
use mathlib.Core.List.{List, []}
use lib.ListN.{length}
use borrow.Author.Tests.{ltb-false, eq-eqb}
use Rattle.algebra.specs.Words.{words_of}
use Rattle.algebra.specs.Sum.{sum_to}
use Rattle.multilinear.specs.Equality.{eq_at}
use Rattle.multilinear.specs.Successors.{NextParts, eval_next}
use Rattle.multilinear.specs.declared.Weight.{Weight}
use Rattle.multilinear.specs.Folds.{weight_at}
use Rattle.multilinear.specs.Values.{value_at}
use Rattle.multilinear.proofs.Values.{value_ext}
use Rattle.field.specs.Field.{Ext, field}
use Rattle.field.proofs.Laws.{field_ring}
use Rattle.table.specs.Table.{table_words, element_at, entries, point_of}
use Rattle.table.specs.Refusals.{verdict, leaves, evaluated, most, variables}
use Rattle.table.proofs.Laws.{table_length, table_at, elements_length}
use Rattle.table.proofs.Tests.{unreduced_table, same}
use Rattle.table.proofs.Verdicts.{Clear, clear}
use Rattle.point.specs.Point.{table_answer}
use Rattle.next.specs.Next.{pair_tests, part_words, eval_next_answer}
use Rattle.poly.specs.Poly.{weights_out}
use Rattle.poly.specs.Values.{ext_tests, eval_ext_answer}
use Rattle.agreement.specs.Agreement.{done_of}
use Rattle.agreement.proofs.Sizes.{one_power, variables_are, few_variables, whole_elements, as_many_rows}

-- carry, done and omega as a table of three
abbrev pub part_of : NextParts Ext → ℕ → Ext
part_of x zero = x.carry
part_of x (suc zero) = x.done
part_of x (suc (suc n)) = x.omega

parts_table : (x : NextParts Ext) → part_words x ≡ table_words 3 (part_of x)
unfolding words_of table_words
parts_table x = refl

-- weights whose sum against eq of another point is done and part `more`
module _ (weight : Weight) (more : ℕ) (part : more < 3)
    (law : (ss ts : List Ext) → length ss ≡ length ts
    → sum_to field (2 ^ length ss) (λ y. field.mul (eq_at field ts y) (weight_at field weight ss y))
    ≡ field.add (eval_next field ss ts).done (part_of (eval_next field ss ts) more))
    (point other table : List ℕ) (accepted : (eval_next_answer point other).number ≡ 0) (l : length table ≡ 4 * 2 ^ entries point) where
  abbrev weights : ℕ → Ext
  weights = weight_at field weight (point_of point)

  abbrev filled : List ℕ
  filled = table_words (2 ^ entries point) weights

  abbrev parts : NextParts Ext
  parts = eval_next field (point_of point) (point_of other)

  passes : verdict (pair_tests point other) ≡ 0
  unfolding eval_next_answer
  passes = accepted

  tests : Clear (pair_tests point other)
  tests = clear (pair_tests point other) tt (sym passes)

  few : entries point ≤ most
  few = ltb-false most (entries point) tests.1.1.0

  alike : entries point ≡ entries other
  alike = same (entries point) (entries other) tests.1.1.1.1.0

  fills : table_answer point table ≡ 0
  unfolding table_answer verdict
  fills =
      rw (
        tests.0,
        whole_elements (entries point) table l,
        tests.1.1.0,
        as_many_rows (entries point) table l,
        tests.1.1.1.1.1.0,
      )
      refl

  out_is : weights_out weight point table ≡ filled
  unfolding weights_out
  out_is = ap (λ n. leaves n filled table) fills

  evaluates : verdict (ext_tests filled other) ≡ 0
  unfolding verdict
  evaluates =
      let n : length filled ≡ 4 * 2 ^ entries point = table_length (2 ^ entries point) weights in
      let rows : entries filled ≡ 2 ^ entries point = omega arith in
      rw (
        whole_elements (entries point) filled n,
        tests.1.0,
        one_power (entries point) (entries filled) few rows,
        few_variables (entries point) (entries filled) few rows,
        tests.1.1.1.0,
        eq-eqb (variables (entries filled)) (entries other) (variables_are (entries point) (entries filled) few rows ∙ alike),
        unreduced_table (2 ^ entries point) weights,
        tests.1.1.1.1.1.1.0,
      )
      refl

  -- the filled table's value at the other
  value_is : value_at field (point_of other) (element_at filled) ≡ field.add parts.done (part_of parts more)
  unfolding value_at
  value_is =
      let ks : length (point_of point) ≡ entries point = elements_length point 0 (entries point) in
      let rs : length (point_of other) ≡ entries other = elements_length other 0 (entries other) in
      let same_length : length (point_of point) ≡ length (point_of other) = ks ∙ alike ∙ sym rs in
      value_ext field_ring (point_of other) (element_at filled) weights
      (λ y b. table_at (2 ^ entries point) weights y (rw (alike, sym rs) b))
      ∙ rw (sym same_length) (law (point_of point) (point_of other) same_length)

  part_is : (i : ℕ) → i < 3 → element_at (eval_next_answer point other).words i ≡ part_of parts i
  unfolding eval_next_answer
  part_is i b =
      ap (λ n. element_at (leaves n (part_words parts) []) i) passes ∙ ap (λ ws. element_at ws i) (parts_table parts) ∙ table_at 3 (part_of parts) i b

  value_given : eval_ext_answer (weights_out weight point table) other
      ≡ evaluated 0 (field.add (done_of point other) (element_at (eval_next_answer point other).words more))
  unfolding eval_ext_answer
  value_given =
      ap (λ ws. evaluated (verdict (ext_tests ws other)) (value_at field (point_of other) (element_at ws))) out_is
      ∙ ap (λ n. evaluated n (value_at field (point_of other) (element_at filled))) evaluates
      ∙ ap (evaluated 0) (value_is ∙ sym (ap₂ field.add (part_is 1 (omega arith)) (part_is more part)))

  pub weights_words : (table_answer point table ≡ 0)
      × (eval_ext_answer (weights_out weight point table) other
      ≡ evaluated 0 (field.add (done_of point other) (element_at (eval_next_answer point other).words more)))
  weights_words = (fills, value_given)
