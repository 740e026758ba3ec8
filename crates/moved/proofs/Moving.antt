-- What holds of a piece's moved rows on both sides, and where the sides are the same. Assumes nothing.
use mathlib.Core.Path.{◌≡◌, sym, ap, ◌∙◌}
use mathlib.Core.Bool.{cond}
use Prim.Native.Nat.{ℕ, ◌+◌, ◌^◌, ◌≤◌, ◌<◌}
use native.Mathlib.Decide.{dec_lt}
use native.Mathlib.Omega.{arith}
use mathlib.Core.List.{List}
use lib.Dec.{ltb}
use lib.ListN.{length}
use borrow.Author.Tests.{le-ltb}
use Rattle.algebra.proofs.Sums.{sum_ext}
use Rattle.multilinear.specs.declared.Side.{Side}
use Rattle.multilinear.specs.declared.Side.TheVariants.{Prefix, Suffix}
use Rattle.multilinear.specs.declared.Weight.{Weight}
use Rattle.multilinear.specs.declared.Weight.TheVariants.{Plain, Shifted, Next, Cyclic}
use Rattle.multilinear.specs.Folds.{word_of}
use Rattle.multilinear.specs.Inner.{skip_of, moved_at}
use Rattle.multilinear.proofs.Weighed.{moved_agree}
use Rattle.field.specs.Field.{Ext, field, base, from_words}
use Rattle.field.proofs.Laws.{field_ring}
use Rattle.table.specs.Table.{placed}
use Rattle.table.specs.Gained.{Gained}
use Rattle.table.proofs.Gaining.{gained_as}
use Rattle.table.proofs.Laws.{elements_length}
use Rattle.point.specs.Points.{coordinates}
use Rattle.moved.specs.declared.Piece.{Piece}
use Rattle.moved.specs.Moved.{moved_by}

-- at most one row
pub skip_small : (weight : Weight) → skip_of weight ≤ 1
skip_small Plain = omega arith
skip_small Shifted = omega arith
skip_small Next = omega arith
skip_small Cyclic = omega arith

module _ (side : Side) (piece : Piece) where
  abbrev word : ℕ → Ext
  word t = base (placed piece.taken piece.words.now t)

  -- where a row is one word, both sides are the same
  pub one_word : {out w : List ℕ} → piece.inner ≡ 1 → Gained 0 piece.inner (moved_by Suffix piece) out w
      → Gained 0 piece.inner (moved_by side piece) out w
  unfolding moved_by
  one_word e d =
      gained_as _ d
      (λ y h.
      let q : y ≡ 0 = omega (arith, e) in
      rw (q, e)
      (sym (moved_agree field_ring side (skip_of piece.weight) (coordinates piece.point) (from_words piece.scale) word)))

  -- so they are where there is one row
  pub one_row : {out w : List ℕ} → piece.point.count ≡ 0 → Gained 0 piece.inner (moved_by Prefix piece) out w
      → Gained 0 piece.inner (moved_by side piece) out w
  unfolding moved_by moved_at
  one_row e d =
      gained_as _ d (λ i h. sum_ext field_ring rows _ _ (λ y b. ap (field.mul _) (go i y (dec_lt (y + skip) rows))))
    where
      skip : ℕ
      skip = skip_of piece.weight

      rows : ℕ
      rows = 2 ^ length (coordinates piece.point)

      one : rows ≡ 1
      one = ap (λ m. 2 ^ m) (elements_length piece.point.words.now 0 piece.point.count ∙ e)

      first_word : (s : Side) (i y : ℕ) → y ≡ 0 → word_of s piece.inner rows i y ≡ i
      first_word Prefix i y q = rw q (omega arith)
      first_word Suffix i y q = rw (one, q) (omega arith)

      go : (i y : ℕ) → Dec (y + skip < rows)
          → cond (ltb (y + skip) rows) (word (word_of Prefix piece.inner rows i (y + skip))) field.zero
          ≡ cond (ltb (y + skip) rows) (word (word_of side piece.inner rows i (y + skip))) field.zero
      go i y (yes l) =
          let q : y + skip ≡ 0 = omega (arith, one) in
          ap (λ n. cond (ltb (y + skip) rows) (word n) field.zero) (first_word Prefix i (y + skip) q ∙ sym (first_word side i (y + skip) q))
      go i y (no l) = rw (le-ltb (y + skip) rows (omega arith))
