-- The two parts of a work buffer that `fill` lends on, and what they become. Assumes nothing.
use mathlib.Core.Path.{◌≡◌, ap, ◌∙◌}
use Prim.Native.Nat.{ℕ, ◌-◌, ◌*◌, ◌^◌, ◌≤◌}
use native.Mathlib.Omega.{arith}
use mathlib.Core.List.{List, ◌++◌}
use lib.ListN.{length, take, drop, length-append, length-drop}
use lib.Seq.{length-take-le}
use borrow.Rule.Slice.PartMut.{put_mid}
use Rattle.algebra.proofs.Ring.{one_mul}
use Rattle.multilinear.specs.Equality.{eq_at}
use Rattle.field.specs.Field.{field, from_words, Holds}
use Rattle.field.specs.declared.Element.{Element}
use Rattle.field.proofs.Laws.{field_ring, read_as}
use Rattle.table.specs.Table.{elements, table_words}
use Rattle.table.proofs.Laws.{table_ext}
use Rattle.table.proofs.Parts.{both_parts}
use Rattle.work.specs.Work.{first, others, work_words}
use Rattle.work.specs.Inner.{BothTables}

module _ (k : ℕ) (work : List ℕ) (n0 : ℕ) (sized : BothTables k work) (rows : n0 ≡ 2 ^ first k) where
  pub within : 4 * n0 ≤ length work
  within = omega (arith, sized.size)

  pub lent : length (take (4 * n0) work) ≡ 4 * n0
  lent = length-take-le (4 * n0) work within

  module _ (point : List ℕ) (scale : Element) where
    module _ (x : List ℕ) (l : length x ≡ length (take (4 * n0) work)) where
      abbrev now : List ℕ
      now = x ++ drop (4 * n0) work

      size_now : length now ≡ length work
      size_now = omega (arith, within, l, lent, length-append x (drop (4 * n0) work), length-drop (4 * n0) work)

      pub filled : (one : Element) {y : List ℕ} → Holds one field.one
          → x ≡ table_words (2 ^ first k) (λ r. field.mul (from_words scale) (eq_at field (elements point 0 (first k)) r))
          → y ≡ table_words (2 ^ others k) (λ r. field.mul (from_words one) (eq_at field (elements point (first k) (others k)) r))
          → put_mid (4 * n0) (length now - 4 * n0) now y ≡ work_words k point (from_words scale)
      unfolding work_words
      filled one {y} h e₁ e₂ =
          both_parts (4 * n0) work x y within l e₁
          (e₂
          ∙ table_ext (2 ^ others k) _ (eq_at field (elements point (first k) (others k))) (λ r b.
          ap (λ a. field.mul a (eq_at field (elements point (first k) (others k)) r)) (read_as _ h) ∙ one_mul field_ring _))
