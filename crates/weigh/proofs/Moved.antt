-- The sums against next and against cyclic: the words one row later against eq, and a row's own by eq of the last. Assumes nothing.
use mathlib.Core.Path.{◌≡◌, ap, ◌∙◌}
use Prim.Native.Nat.{ℕ, ◌+◌, ◌-◌, ◌^◌}
use native.Mathlib.Omega.{arith}
use mathlib.Core.List.{List}
use lib.ListN.{length, get_or, get_or-eq_default}
use Rattle.multilinear.specs.Equality.{eq_at}
use Rattle.multilinear.specs.Successors.{last_row}
use Rattle.multilinear.specs.Values.{next_value_at}
use Rattle.multilinear.specs.Inner.{own_value_at}
use Rattle.multilinear.proofs.Values.{next_value_is}
use Rattle.multilinear.proofs.Folds.{own_value_moved}
use Rattle.field.specs.Field.{Ext, field, base}
use Rattle.field.proofs.Laws.{field_ring, base_zero}
use Rattle.table.proofs.Laws.{elements_length}
use Rattle.table.proofs.Parts.{after, after_length, after_below, after_word}
use Rattle.point.specs.declared.Point.{Point}
use Rattle.point.specs.Points.{coordinates}
use Rattle.weigh.specs.Entries.{WholeTable, word_at, table_value}
use Rattle.weigh.specs.Weigh.{NearlyWhole}
use Rattle.weigh.proofs.WordTables.{some}

module _ (point : Point) {table : List ℕ} (w : WholeTable 1 point.count table) where
  rows : 2 ^ point.count ≡ length table
  rows = omega (arith, w.count)

  -- the words from the second on: the last row's is missing
  pub later : NearlyWhole point.count (after 1 table)
  later =
      let l : length (after 1 table) ≡ length table - 1 = after_length 1 table in
      record { fits = omega (arith, w.count); there = omega (arith, w.count); below = after_below 1 table w.below }

  abbrev zs : List Ext
  zs = coordinates point

  last_row_lem : last_row field zs ≡ length table - 1
  last_row_lem = ap (λ m. 2 ^ m - 1) (elements_length point.words.now 0 point.count) ∙ ap (λ m. m - 1) rows

  missing : base (get_or (after 1 table) (last_row field zs) 0) ≡ field.zero
  missing =
      ap base
      (after_word 1 table (last_row field zs) ∙ get_or-eq_default table 0 {n = 1 + last_row field zs} (omega (arith, last_row_lem, some)))
      ∙ base_zero

  -- the words one row later, against eq
  abbrev pub moved : Ext
  moved = table_value word_at point (after 1 table)

  pub own_is : (own : ℕ) → own_value_at field own zs (λ y. base (get_or table y 0))
      ≡ field.add moved (field.mul (eq_at field zs (length table - 1)) (base (get_or table own 0)))
  own_is own =
      own_value_moved field_ring own zs (λ y. base (get_or table y 0)) (λ y. base (get_or (after 1 table) y 0))
      (λ y b. ap base (after_word 1 table y ∙ ap (λ m. get_or table m 0) (omega arith))) missing
      ∙ ap (λ m. field.add moved (field.mul (eq_at field zs m) (base (get_or table own 0)))) last_row_lem

  -- on next the row is the last one
  pub next_is : next_value_at field zs (λ y. base (get_or table y 0))
      ≡ field.add moved
      (field.mul (eq_at field zs (length table - 1)) (base (get_or table (length table - 1) 0)))
  next_is =
      next_value_is field_ring zs (λ y. base (get_or table y 0))
      ∙ ap (λ m. own_value_at field m zs (λ y. base (get_or table y 0))) last_row_lem ∙ own_is (length table - 1)
