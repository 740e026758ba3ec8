-- The rows of a piece from `skip` on, scattered. Assumes nothing.
use mathlib.Core.Path.{◌≡◌, ap, ◌∙◌}
use mathlib.Core.Bool.{cond}
use Prim.Native.Nat.{ℕ, min, ◌+◌, ◌-◌, ◌*◌, ◌^◌, ◌≤◌, ◌<◌}
use native.Mathlib.Decide.{dec_lt}
use native.Mathlib.Nat.{add-mul, mul-le-mul_right}
use native.Mathlib.Omega.{arith}
use mathlib.Core.List.{List}
use lib.Dec.{ltb}
use lib.ListN.{length}
use borrow.Author.Tests.{lt-ltb, le-ltb}
use Rattle.multilinear.specs.declared.Side.TheVariants.{Prefix}
use Rattle.multilinear.specs.declared.Weight.TheVariants.{Plain}
use Rattle.multilinear.specs.Folds.{fold_at}
use Rattle.multilinear.specs.Inner.{skip_of, moved_at}
use Rattle.multilinear.proofs.Weighed.{fold_moved}
use Rattle.field.specs.Field.{Ext, field, base, from_words}
use Rattle.field.proofs.Laws.{field_ring, base_zero}
use Rattle.table.specs.Table.{entries, placed}
use Rattle.table.specs.Gained.{Gained}
use Rattle.table.proofs.Laws.{elements_length}
use Rattle.table.proofs.Gaining.{gained_as}
use Rattle.table.proofs.Parts.{after, after_below}
use Rattle.table.proofs.Placed.{placed_after, placed_further, further_fits}
use Rattle.point.specs.Points.{coordinates}
use Rattle.scatter.specs.Scatter.{Scatters, Scattered}
use Rattle.moved.specs.declared.Piece.{Piece}
use Rattle.moved.specs.Moved.{Adds, table_word, moved_by}

module _ (piece : Piece) {out : List ℕ} (a : Adds piece out) {skip : ℕ} (is : skip ≡ skip_of piece.weight) where
  abbrev inner : ℕ
  inner = piece.inner

  abbrev zs : List Ext
  zs = coordinates piece.point

  abbrev words : List ℕ
  words = piece.words.now

  places : entries out ≡ inner
  places = omega (arith, a.room)

  module _ {early from : ℕ} (c : early ≡ min (length words) (skip * inner - piece.taken)) (f : from ≡ piece.taken - skip * inner) where
    c' : early ≡ length words - (length words - (skip * inner - piece.taken))
    c' = omega (arith, c)

    q : from ≡ piece.taken + early - skip * inner
    q = omega (arith, c, f)

    pub first_scatters : Scatters from piece.point piece.scale (after early words) out
    first_scatters =
        let w : from + length (after early words) ≤ 2 ^ piece.point.count * inner =
        further_fits (skip * inner) piece.taken words early from c' q (2 ^ piece.point.count * inner) (omega (arith, piece.fits.within)) in
        record {
          weight_is = piece.scale_is;
          small = rw places piece.fits.small;
          within = rw places w;
          below = after_below early words piece.below;
          room = omega (arith, a.room);
          out_below = a.out_below;
        }

    moved : (y : ℕ) → fold_at field Prefix Plain inner zs (from_words piece.scale) (λ t. base (placed from (after early words) t)) y
        ≡ moved_at field Prefix skip inner zs (from_words piece.scale) (λ t. base (table_word piece t)) y
    moved y =
        fold_moved field_ring skip inner zs (from_words piece.scale) (λ t. base (table_word piece t))
        (λ t. base (placed from (after early words) t)) y
        (λ r b. go r (dec_lt (r + skip) (2 ^ length zs)))
      where
        at : (r : ℕ) → placed from (after early words) (r * inner + y) ≡ table_word piece ((r + skip) * inner + y)
        at r =
            let e : skip * inner + (r * inner + y) ≡ (r + skip) * inner + y = omega (arith, add-mul r skip inner) in
            placed_further (skip * inner) piece.taken words early from c' q (r * inner + y) ∙ ap (table_word piece) e

        go : (r : ℕ) → Dec (r + skip < 2 ^ length zs)
            → base (placed from (after early words) (r * inner + y))
            ≡ cond (ltb (r + skip) (2 ^ length zs)) (base (table_word piece ((r + skip) * inner + y))) field.zero
        go r (yes h) = rw (lt-ltb (r + skip) (2 ^ length zs) h) (ap base (at r))
        go r (no h) =
            let k : 2 ^ length zs ≤ r + skip = omega arith in
            let m : 2 ^ length zs * inner ≤ (r + skip) * inner = mul-le-mul_right inner k in
            let past = rw (elements_length piece.point.words.now 0 piece.point.count) at m in
            rw (le-ltb (r + skip) (2 ^ length zs) k)
            (ap base (at r ∙ placed_after piece.taken words _ (omega (arith, past, piece.fits.within))) ∙ base_zero)

    pub rows_added : {w : List ℕ} → Scattered from piece.point piece.scale (after early words) out w
        → Gained 0 inner (moved_by Prefix piece) out w
    unfolding moved_by
    rows_added d =
        gained_as _ (rw places at d)
        (λ y h. moved y ∙ ap (λ n. moved_at field Prefix n inner zs (from_words piece.scale) (λ t. base (table_word piece t)) y) is)
