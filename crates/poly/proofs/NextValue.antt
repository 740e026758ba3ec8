-- The sums against next and against cyclic, from their two parts, with a scale of one. Assumes nothing.
use mathlib.Core.Path.{◌≡◌, sym, ap, ◌∙◌}
use Prim.Native.Nat.{ℕ, ◌-◌, ◌^◌}
use native.Mathlib.Omega.{arith}
use mathlib.Core.List.{List}
use lib.ListN.{length, get_or}
use Rattle.multilinear.specs.Equality.{eq_at}
use Rattle.multilinear.specs.Successors.{last_row}
use Rattle.multilinear.specs.Values.{next_value_at, cyclic_value_at}
use Rattle.multilinear.specs.Inner.{own_value_at}
use Rattle.multilinear.proofs.Values.{next_value_is, cyclic_value_is}
use Rattle.field.specs.Field.{Ext, field, base, from_words, Holds}
use Rattle.field.specs.declared.Element.{Element}
use Rattle.field.proofs.Laws.{field_ring, read_as}
use Rattle.point.specs.declared.Point.{Point}
use Rattle.point.specs.Points.{coordinates}
use Rattle.weigh.specs.Entries.{WholeTable}
use Rattle.weigh.proofs.Moved.{moved, own_is}
use Rattle.weigh.proofs.Weighing.{unscaled}

pub own_sum : (point : Point) {table : List ℕ} (w : WholeTable 1 point.count table) (one : Element) (row : ℕ) {weight own rest x : Element}
    → Holds weight (eq_at field (coordinates point) (length table - 1))
    → Holds own (field.mul (from_words weight) (base (get_or table row 0))) → Holds one field.one
    → Holds rest (field.mul (from_words one) (moved point w)) → Holds x (field.add (from_words rest) (from_words own))
    → Holds x (own_value_at field row (coordinates point) (λ y. base (get_or table y 0)))
own_sum point w one row d-weight d-own d-one d-rest d =
    rw (own_is point w row) (rw (read_as _ (unscaled one _ d-one d-rest), read_as _ d-own, read_as _ d-weight) at d)

-- that row being the last, and being the first
pub as_next : (k : ℕ) (zs : List Ext) {table : List ℕ} (f : ℕ → Ext) → length zs ≡ k → WholeTable 1 k table → {x : Element}
    → Holds x (own_value_at field (length table - 1) zs f) → Holds x (next_value_at field zs f)
as_next k zs {table} f l w d =
    let q : length table - 1 ≡ last_row field zs = omega (arith, w.count) ∙ ap (λ m. 2 ^ m - 1) (sym l) in
    rw (next_value_is field_ring zs f, ← q) d

pub as_cyclic : (zs : List Ext) (f : ℕ → Ext) {x : Element} → Holds x (own_value_at field 0 zs f) → Holds x (cyclic_value_at field zs f)
as_cyclic zs f d = rw (cyclic_value_is field_ring zs f) d
