-- The loop of `add_points` at point j: how it starts and steps. Assumes nothing.
use mathlib.Core.Path.{◌≡◌}
use Prim.Native.Nat.{ℕ, ◌+◌}
use native.Mathlib.Numerals.{add-one}
use mathlib.Core.List.{List}
use Rattle.algebra.specs.Sum.{sum_to}
use Rattle.field.specs.Field.{Ext, field, from_words, Holds}
use Rattle.field.specs.declared.Element.{Element}
use Rattle.field.proofs.Laws.{read_as}
use Rattle.multilinear.specs.Equality.{eq_at}
use Rattle.multilinear.specs.Beside.{eval_batch}
use Rattle.table.specs.Gained.{Gained}
use Rattle.table.proofs.Gaining.{nothing, added}
use Rattle.eq_batch.specs.Inner.{Elements}

module _ (scalar : ℕ → Ext) (point : ℕ → List Ext) (n : ℕ) where
  pub start : (ws : List ℕ) → Elements 0 n ws → Gained 0 n (eval_batch field 0 scalar point) ws ws
  unfolding eval_batch sum_to
  start ws r = nothing 0 n ws r.reduced

  pub turn : (j : ℕ) (ws w : List ℕ) → Gained 0 n (eval_batch field j scalar point) ws w → (c : Element) (zs : List Ext) {w' : List ℕ}
      → Holds c (scalar j) → zs ≡ point j → Gained 0 n (λ y. field.mul (from_words c) (eq_at field zs y)) w w'
      → Gained 0 n (eval_batch field (j + 1) scalar point) ws w'
  unfolding eval_batch sum_to
  turn j ws w d c zs e₁ e₂ e₃ = rw add-one (rw (e₂, read_as _ e₁) at (added d e₃))
