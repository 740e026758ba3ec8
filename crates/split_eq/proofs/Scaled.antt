-- Values with a scale, in their cases, and the sum against next from its two parts. Assumes nothing.
use mathlib.Core.Path.{◌≡◌, sym, ◌∙◌}
use Prim.Native.Nat.{ℕ, zero, suc, ◌-◌, ◌^◌, ◌≤◌, ◌<◌}
use native.Mathlib.Omega.{arith}
use mathlib.Core.Bool.{cond}
use mathlib.Core.List.{List}
use lib.Dec.{eqb}
use lib.ListN.{length, get_or}
use borrow.Author.Tests.{eq-eqb, ne_eqb}
use Rattle.algebra.specs.Ring.{CommRing}
use Rattle.multilinear.specs.Equality.{eq_at}
use Rattle.multilinear.specs.Values.{value_at, next_value_at}
use Rattle.multilinear.specs.Folds.{scaled_value_at, scaled_next_value_at}
use Rattle.field.specs.Field.{Ext, field, base, from_words, Holds}
use Rattle.field.specs.declared.Element.{Element}
use Rattle.field.proofs.Laws.{field_ring, read_as}
use Rattle.table.specs.Table.{elements}
use Rattle.table.proofs.Laws.{elements_length}
use Rattle.point.specs.declared.Point.{Point}
use Rattle.point.specs.Points.{coordinates}
use Rattle.weigh.specs.Entries.{WholeTable}
use Rattle.weigh.proofs.WordTables.{some}
use Rattle.weigh.proofs.Moved.{moved, next_is}
use Rattle.work.specs.Inner.{row_weight}
use Rattle.work.proofs.Weights.{row_weight_lem}
use Rattle.split_eq.specs.Inner.{Weighed}

module _ (point : List ℕ) (n : ℕ) (scale : Ext) (f : ℕ → Ext) where
  abbrev zs : List Ext
  zs = elements point 0 n

  -- no variable: the constant
  pub constant : {x : Element} → n ≡ 0 → Holds x (f 0) → Holds x (scaled_value_at field zs scale f)
  unfolding scaled_value_at
  constant z d = rw (eq-eqb (length zs) 0 (elements_length point 0 n ∙ z)) d

  pub scaled : {x : Element} → (n ≡ 0 → ⊥) → Holds x (field.mul scale (value_at field zs f)) → Holds x (scaled_value_at field zs scale f)
  unfolding scaled_value_at
  scaled s d = rw (ne_eqb (length zs) 0 (λ z. s (sym (elements_length point 0 n) ∙ z))) d

  -- one variable or none: the last entry
  pub corner : {x : Element} → n < 2 → Holds x (f n) → Holds x (scaled_next_value_at field zs scale f)
  unfolding scaled_next_value_at
  corner {x} b d = rw (elements_length point 0 n) (go n b d)
    where
      go : (m : ℕ) → m < 2 → Holds x (f m)
          → Holds x (cond (eqb m 0) (f 0) (cond (eqb m 1) (f 1) (field.mul scale (next_value_at field zs f))))
      go zero b d = d
      go (suc zero) b d = d
      go (suc (suc m)) b d = absurd (omega arith)

  pub scaled_next : {x : Element} → 2 ≤ n → Holds x (field.mul scale (next_value_at field zs f))
      → Holds x (scaled_next_value_at field zs scale f)
  unfolding scaled_next_value_at
  scaled_next b d = rw (elements_length point 0 n, ne_eqb n 0 (λ z. omega arith), ne_eqb n 1 (λ z. omega arith)) d

-- of one variable or none, that entry is there
pub entry : {n : ℕ} {table : List ℕ} → WholeTable 1 n table → n < 2 → n < length table
entry {n} {table} w b = let l : length table ≡ 2 ^ n = omega (arith, w.count) in rw l (go n b)
  where
    go : (m : ℕ) → m < 2 → m < 2 ^ m
    go zero b = omega arith
    go (suc zero) b = omega arith
    go (suc (suc m)) b = absurd (omega arith)

-- the words one row later, with the scale, and the last row's own, whose weight has the scale
module _ (point : Point) {table : List ℕ} (w : WholeTable 1 point.count table) (scale : Element) where
  abbrev last : ℕ
  last = length table - 1

  abbrev eq : Ext
  eq = eq_at field (coordinates point) last

  abbrev word : Ext
  word = base (get_or table last 0)

  pub next_sum : {work : List ℕ} → Weighed point.count point.words.now scale work → 2 ≤ point.count → {weight own rest x : Element} → Holds weight (row_weight point.count work last)
      → Holds own (field.mul (from_words weight) word)
      → Holds rest (field.mul (from_words scale) (moved point w))
      → Holds x (field.add (from_words rest) (from_words own))
      → Holds x (scaled_next_value_at field (coordinates point) (from_words scale) (λ y. base (get_or table y 0)))
  next_sum v b d-weight d-own d-rest d =
      scaled_next point.words.now point.count (from_words scale) (λ y. base (get_or table y 0)) b
      (rw (
        next_is point w,
        CommRing.mul_add field_ring (from_words scale) (moved point w) (field.mul eq word),
        sym (CommRing.mul_assoc field_ring (from_words scale) eq word),
      )
      (rw (
        read_as _ d-rest,
        read_as _ d-own,
        read_as _ d-weight,
        v.holds,
        row_weight_lem point.count point.words.now (from_words scale) last (omega (arith, w.count, some w)),
      ) at d))
