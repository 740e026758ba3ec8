-- What the own row of each weight gives: nothing, or the words of its row. Assumes nothing.
use mathlib.Core.Path.{◌≡◌, sym, ap, ◌∙◌}
use Prim.Native.Nat.{ℕ, ◌+◌, ◌*◌, ◌^◌, ◌≤◌, ◌<◌}
use native.Mathlib.Nat.{mul_comm, mul-le-mul_right}
use native.Mathlib.Omega.{arith}
use mathlib.Core.List.{List}
use lib.ListN.{length}
use Rattle.std.specs.Prelude.{Option, Some, None}
use Rattle.std.proofs.lemmas.Option.{none-some, same_Some}
use Rattle.multilinear.specs.declared.Side.{Side}
use Rattle.multilinear.specs.declared.Side.TheVariants.{Prefix, Suffix}
use Rattle.multilinear.specs.declared.Weight.{Weight}
use Rattle.multilinear.specs.declared.Weight.TheVariants.{Plain, Shifted, Next, Cyclic}
use Rattle.multilinear.specs.Equality.{eq_at}
use Rattle.multilinear.specs.Successors.{last_row}
use Rattle.multilinear.specs.Folds.{word_of}
use Rattle.multilinear.specs.Inner.{own_row, own_at, of_row}
use Rattle.field.specs.Field.{Ext, field, base, from_words}
use Rattle.table.specs.Refusals.{largest}
use Rattle.table.specs.Gained.{Gained}
use Rattle.table.proofs.Gaining.{nothing, gained_as}
use Rattle.table.proofs.Laws.{elements_length}
use Rattle.table.proofs.Tests.{reduced_at}
use Rattle.point.specs.Points.{coordinates}
use Rattle.moved.specs.declared.Piece.{Piece}
use Rattle.moved.specs.Moved.{Adds, table_word}
use Rattle.piece.specs.declared.own.Stand.{Stand}
use Rattle.piece.specs.Inner.{own_by, Apart, apart, Stands, row_by}

-- the own row is one of the rows
pub own_there : (weight : Weight) {rows row : ℕ} → 0 < rows → own_row weight rows ≡ Some row → row < rows
own_there Plain h e = absurd (none-some _ e)
own_there Shifted h e = absurd (none-some _ e)
own_there Next h e = let q = same_Some _ _ e in omega (arith, q)
own_there Cyclic h e = let q = same_Some _ _ e in omega (arith, q)

-- where the words of a row stand
stands_at : (side : Side) (row rows inner i : ℕ) (s : Stand) → s ≡ apart side row rows inner
    → s.start + i * s.stride ≡ word_of side inner rows i row
stands_at Prefix row rows inner i s e = rw e (omega arith)
stands_at Suffix row rows inner i s e = rw e (omega arith)

module _ (piece : Piece) where
  abbrev zs : List Ext
  zs = coordinates piece.point

  abbrev inner : ℕ
  inner = piece.inner

  abbrev weight : Ext
  weight = field.mul (from_words piece.scale) (eq_at field zs (last_row field zs))

  -- the word of a row of so many, at place i
  abbrev row_word : Side → ℕ → ℕ → ℕ → Ext
  row_word side rows i y = field.mul weight (base (table_word piece (word_of side inner rows i y)))

  all : {rows : ℕ} → rows ≡ 2 ^ piece.point.count → rows ≡ 2 ^ length zs
  all r = r ∙ ap (λ m. 2 ^ m) (sym (elements_length piece.point.words.now 0 piece.point.count))

  -- what the place gains, by the row that there is
  own_is : (side : Side) {rows : ℕ} {o : Option ℕ} → rows ≡ 2 ^ piece.point.count → own_row piece.weight rows ≡ o → (i : ℕ)
      → of_row field o (row_word side rows i) ≡ own_by side piece i
  unfolding own_by own_at
  own_is side {rows} r e i =
      sym (ap (λ o. of_row field o (row_word side rows i)) e)
      ∙ ap (λ n. of_row field (own_row piece.weight n) (row_word side n i)) (all r)

  -- no row
  pub none_own : (side : Side) {rows : ℕ} {out : List ℕ} → Adds piece out → rows ≡ 2 ^ piece.point.count
      → own_row piece.weight rows ≡ None → Gained 0 inner (own_by side piece) out out
  none_own side {rows} {out} a r e =
      gained_as _ (nothing 0 inner out (λ y h. reduced_at out a.out_below (0 + y))) (λ i h. own_is side r e i)

  module _ {row rows : ℕ} (h : row < rows) (r : rows ≡ 2 ^ piece.point.count) where
    pub row_there : Apart row rows inner
    row_there = record { there = h; small = rw r piece.fits.small }

    rows_small : rows * inner ≤ largest
    rows_small = rw r piece.fits.small

    pub stands : (side : Side) → Stands (apart side row rows inner) inner
    stands Prefix =
        let m : row * inner ≤ rows * inner = mul-le-mul_right inner (omega arith) in
        let n : 1 * inner ≤ rows * inner = mul-le-mul_right inner (omega arith) in
        record { some = omega arith; near = omega arith; within = omega (arith, m, n, rows_small) }
    stands Suffix =
        let m : 1 * rows ≤ inner * rows = mul-le-mul_right rows piece.fits.some in
        let c : inner * rows ≡ rows * inner = mul_comm inner rows in
        record { some = omega arith; near = omega (arith, m, c, rows_small); within = omega (arith, m, c, rows_small) }

  -- the words of one
  pub row_own : (side : Side) {stand : Stand} {row rows : ℕ} {out w : List ℕ} → rows ≡ 2 ^ piece.point.count
      → own_row piece.weight rows ≡ Some row → stand ≡ apart side row rows inner → Gained 0 inner (row_by stand piece) out w
      → Gained 0 inner (own_by side piece) out w
  unfolding row_by
  row_own side {stand} {row} {rows} r e s d =
      gained_as _ d
      (λ i h.
      ap (λ t. field.mul weight (base (table_word piece t))) (stands_at side row rows inner i stand s) ∙ own_is side r e i)
