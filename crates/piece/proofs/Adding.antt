-- A piece added by a plan: the rows that are moved on and the own row, and the table that the places become. Assumes nothing.
use mathlib.Core.Path.{◌≡◌, sym, ap, ◌∙◌}
use Prim.Native.Nat.{ℕ, ◌+◌, ◌*◌, ◌^◌, ◌≤◌}
use mathlib.Core.List.{List}
use lib.ListN.{length}
use Rattle.multilinear.specs.declared.Side.{Side}
use Rattle.multilinear.specs.Folds.{fold_at}
use Rattle.multilinear.proofs.Weighed.{moved_own}
use Rattle.field.specs.Field.{field, base, from_words}
use Rattle.field.proofs.Laws.{field_ring}
use Rattle.table.specs.Gained.{Gained}
use Rattle.table.proofs.Gaining.{gained_as, gained_table, added}
use Rattle.point.specs.Points.{coordinates}
use Rattle.moved.specs.declared.Piece.{Piece}
use Rattle.moved.specs.Fits.{Fits}
use Rattle.moved.specs.Moved.{table_word, moved_by}
use Rattle.plan.specs.declared.Plan.{Plan}
use Rattle.plan.specs.Plan.{width, capacity, coordinates_of, gained_by}
use Rattle.plan.specs.Sound.{Sound, Takes}
use Rattle.plan.proofs.Columns.{few_words, some_width, all_words, gained_rows}
use Rattle.piece.specs.Inner.{own_by}

-- the rows that are moved on, and the own row: all rows
pub summed : (side : Side) (piece : Piece) {out w w' : List ℕ} → Gained 0 piece.inner (moved_by side piece) out w
    → Gained 0 piece.inner (own_by side piece) w w'
    → Gained 0 piece.inner
    (fold_at field side piece.weight piece.inner (coordinates piece.point) (from_words piece.scale) (λ t. base (table_word piece t))) out w'
unfolding moved_by own_by
summed side piece d d' =
    gained_as _ (added d d') (λ y h.
    moved_own field_ring side piece.weight piece.inner (coordinates piece.point) (from_words piece.scale)
    (λ t. base (table_word piece t)) y)

module _ {plan : Plan} (sound : Sound plan) {inner : ℕ} (i : inner ≡ width plan) where
  -- words of the plan's table
  pub in_table : {taken : ℕ} {words : List ℕ} → taken + length words ≤ capacity plan → Fits plan.k inner taken words
  in_table within =
      let all : 2 ^ plan.k * inner ≡ capacity plan = ap (λ m. 2 ^ plan.k * m) i ∙ sym (all_words plan sound.fits) in
      record { some = rw i (some_width sound); small = rw all (few_words sound); within = rw all within }

-- the sums of a plan's places
pub as_table : {plan : Plan} {taken : ℕ} {words out w w' : List ℕ} (piece : Piece) → Takes plan taken words out
    → coordinates piece.point ≡ coordinates_of plan → piece.weight ≡ plan.weight → piece.scale ≡ plan.scale → piece.inner ≡ width plan
    → piece.taken ≡ taken → piece.words.now ≡ words → Gained 0 piece.inner (moved_by plan.side piece) out w
    → Gained 0 piece.inner (own_by plan.side piece) w w' → w' ≡ gained_by plan taken words out
as_table {plan} piece t zs weight scale inner taken words d d' =
    gained_table (width plan) _ _ _ (rw (zs, weight, scale, taken, words, inner) at (summed plan.side piece d d')) t.room
    ∙ sym (gained_rows t.sound _ _ _)
