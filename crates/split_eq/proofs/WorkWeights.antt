-- The weights of a work buffer that was filled: that of the last row, and all of them with a further scale. Assumes nothing.
use mathlib.Core.Path.{◌≡◌, ap, ◌∙◌}
use Prim.Native.Nat.{ℕ, ◌-◌, ◌^◌}
use native.Mathlib.Omega.{arith}
use mathlib.Core.List.{List, [], ◌∷◌}
use lib.Pow.{pow_pos}
use Rattle.algebra.proofs.Reading.{reading, ring}
use Rattle.multilinear.specs.Equality.{eq_at}
use Rattle.multilinear.specs.Successors.{last_row}
use Rattle.field.specs.Field.{Ext, field, Holds}
use Rattle.field.specs.declared.Element.{Element}
use Rattle.field.proofs.Laws.{field_ring}
use Rattle.table.specs.Table.{elements, table_words}
use Rattle.table.proofs.Laws.{elements_length, table_ext}
use Rattle.point.specs.Coordinates.{Coordinates}
use Rattle.work.specs.Work.{work_words}
use Rattle.work.specs.Inner.{Tables, row_weight}
use Rattle.work.proofs.Weights.{tables, row_weight_lem}

module _ (k : ℕ) (point : List ℕ) (scale : Ext) (work : List ℕ) (q : work ≡ work_words k point scale) where
  abbrev zs : List Ext
  zs = elements point 0 k

  pub filled : Coordinates k point → Tables k work
  filled c = rw q (tables k point scale c.few)

  pub last_weight : (rows : ℕ) → rows ≡ 2 ^ k → {x : Element} → Holds x (row_weight k work (rows - 1))
      → Holds x (field.mul scale (eq_at field zs (last_row field zs)))
  last_weight rows e d =
      rw (elements_length point 0 k) (rw (q, e, row_weight_lem k point scale (2 ^ k - 1) (omega (arith, pow_pos k))) at d)

  turned : (a b c : Ext) → field.mul a (field.mul b c) ≡ field.mul (field.mul b a) c
  turned a b c = reading field_ring (a ∷ b ∷ c ∷ []) λ q. simp (ring, q, q.at 0, q.at 1, q.at 2) (q.close tt)

  -- a table that gains given·weight gains scale·given·eq
  pub gained : (given : Ext) (f : ℕ → Ext)
      → table_words (2 ^ k) (λ y. field.add (f y) (field.mul given (row_weight k work y)))
      ≡ table_words (2 ^ k) (λ y. field.add (f y) (field.mul (field.mul scale given) (eq_at field zs y)))
  gained given f =
      table_ext (2 ^ k) _ _
      (λ y h. ap (field.add (f y))
      (ap (λ ws. field.mul given (row_weight k ws y)) q ∙ ap (field.mul given) (row_weight_lem k point scale y h)
      ∙ turned given scale (eq_at field zs y)))
