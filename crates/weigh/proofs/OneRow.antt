-- The value of words that are all in one row of the first coordinates: eq of the row times the row's own value. Assumes nothing.
use mathlib.Core.Path.{◌≡◌, refl, sym, ap, ◌∙◌}
use Prim.Native.Nat.{ℕ, suc, ◌+◌, ◌-◌, ◌*◌, ◌/◌, ◌%◌, ◌^◌, ◌≤◌, ◌<◌}
use native.Mathlib.Decide.{dec_lt}
use native.Mathlib.Nat.{zero-add, add-mul, mul_assoc, mul-le-mul_right, div-add-mod'}
use native.Mathlib.Omega.{arith}
use mathlib.Core.List.{List, ◌++◌}
use lib.ListN.{length}
use lib.Pow.{pow-add}
use Rattle.algebra.proofs.Sums.{sum_ext}
use Rattle.multilinear.specs.Equality.{eq_at}
use Rattle.multilinear.specs.Values.{value_at}
use Rattle.multilinear.proofs.Values.{value_ext, value_split}
use Rattle.multilinear.proofs.Rows.{value_row}
use Rattle.field.specs.Field.{Ext, field, base, from_words, Holds}
use Rattle.field.specs.declared.Element.{Element}
use Rattle.field.proofs.Laws.{field_ring, read_as}
use Rattle.table.specs.Table.{element_at, elements, placed}
use Rattle.table.proofs.Laws.{elements_length}
use Rattle.table.proofs.Parts.{elements_cut}
use Rattle.table.proofs.Placed.{placed_before, placed_word, placed_after}
use Rattle.weigh.specs.declared.blocks.Piece.{Piece}
use Rattle.weigh.specs.declared.blocks.SplitPoint.{SplitPoint}
use Rattle.weigh.specs.Weigh.{block_sum}
use Rattle.weigh.specs.Blocks.{Fits, InRow, After, blocks_value, part_value}
use Rattle.weigh.proofs.Splitting.{within, after_value}
use Rattle.weigh.proofs.WordParts.{no_words}

-- words that stand a rows further
placed_further : (a from : ℕ) (words : List ℕ) (y : ℕ) → placed (a + from) words (a + y) ≡ placed from words y
placed_further a from words y = go (dec_lt y from)
  where
    go : Dec (y < from) → placed (a + from) words (a + y) ≡ placed from words y
    go (yes h) = placed_before (a + from) words (a + y) (omega arith) ∙ sym (placed_before from words y h)
    go (no h) =
        let q : a + y ≡ a + from + (y - from) = omega arith in
        let r : from + (y - from) ≡ y = omega arith in
        ap (placed (a + from) words) q ∙ placed_word (a + from) words (y - from) ∙ sym (placed_word from words (y - from))
        ∙ ap (placed from words) r

module _ {size : ℕ} (a : SplitPoint size) {own : ℕ} (piece : Piece) (fits : Fits a piece) (is : InRow own a piece) {rows : ℕ} (e : rows ≡ 2 ^ (own + a.low)) where
  abbrev words : List ℕ
  words = piece.words.now

  abbrev from : ℕ
  from = piece.from

  abbrev before : ℕ
  before = a.high.count - own

  abbrev row : ℕ
  row = from / rows

  abbrev start : ℕ
  start = from % rows

  own_left : a.high.count - before ≡ own
  own_left = omega (arith, is.own_fits)

  from_is : row * rows + start ≡ from
  from_is = div-add-mod' from rows

  together : start + length words ≤ rows
  together = rw e is.together

  pub own_fits : {rest : SplitPoint size} → After before a rest → start + length words ≤ 2 ^ (rest.high.count + rest.low)
  own_fits r = rw (r.high.count, r.low, own_left, sym e) together

  abbrev us : List Ext
  us = elements a.high.words.now 0 before

  abbrev vs : List Ext
  vs = elements a.high.words.now before own

  whole : us ++ vs ≡ elements a.high.words.now 0 a.high.count
  whole = rw zero-add at (elements_cut a.high.words.now 0 is.own_fits)

  row_there : row < 2 ^ length us
  row_there = rw (elements_length a.high.words.now 0 before) (go (dec_lt row (2 ^ before)))
    where
      all_rows : 2 ^ (a.high.count + a.low) ≡ 2 ^ before * rows
      all_rows =
          let q : a.high.count + a.low ≡ before + (own + a.low) = omega (arith, is.own_fits) in
          ap (λ n. 2 ^ n) q ∙ pow-add 2 before (own + a.low) ∙ ap (λ n. 2 ^ before * n) (sym e)

      go : Dec (row < 2 ^ before) → row < 2 ^ before
      go (yes h) = h
      go (no h) =
          let l : 2 ^ before ≤ row = omega arith in
          let m : 2 ^ before * rows ≤ row * rows = mul-le-mul_right rows l in
          absurd (omega (arith, from_is, all_rows, fits, is.some))

  -- the words of row h
  early : (h t : ℕ) → h < row → t < rows → placed from words (h * rows + t) ≡ 0
  early h t l b =
      let m : suc h * rows ≤ row * rows = mul-le-mul_right rows l in
      placed_before from words _ (omega (arith, from_is))

  late : (h t : ℕ) → row + 1 ≤ h → placed from words (h * rows + t) ≡ 0
  late h t l =
      let m : (row + 1) * rows ≤ h * rows = mul-le-mul_right rows l in
      placed_after from words _ (omega (arith, from_is, together, add-mul row 1 rows))

  own_row : (t : ℕ) → placed from words (row * rows + t) ≡ placed start words t
  own_row t = ap (λ n. placed n words (row * rows + t)) (sym from_is) ∙ placed_further (row * rows) start words t

  -- the sums of the blocks
  abbrev sums : (ℕ → ℕ) → ℕ → Ext
  sums word = block_sum a.low a.block.table.now (λ y. base (word y))

  -- and the value of a row
  abbrev row_at : ℕ → Ext
  row_at h = value_at field vs (λ l. sums (placed from words) (h * 2 ^ length vs + l))

  row_value : (h : ℕ) (word : ℕ → ℕ) → ((t : ℕ) → t < rows → placed from words (h * rows + t) ≡ word t)
      → row_at h ≡ value_at field vs (sums word)
  unfolding block_sum
  row_value h word q =
      value_ext field_ring vs _ _
      (λ l b. sum_ext field_ring (2 ^ a.low) _ _
      (λ m c. ap (λ w. field.mul (element_at a.block.table.now m) (base w))
      (ap (placed from words) (place l m) ∙ q _ (rw e (within own a.low l m (below l b) c)))))
    where
      below : (l : ℕ) → l < 2 ^ length vs → l < 2 ^ own
      below l b = rw (elements_length a.high.words.now before own) at b

      place : (l m : ℕ) → (h * 2 ^ length vs + l) * 2 ^ a.low + m ≡ h * rows + (l * 2 ^ a.low + m)
      place l m =
          rw (elements_length a.high.words.now before own)
          (omega (
            arith,
            add-mul (h * 2 ^ own) l (2 ^ a.low),
            mul_assoc h (2 ^ own) (2 ^ a.low),
            ap (λ n. h * n) (e ∙ pow-add 2 own a.low),
          ))

  empty_row : (h : ℕ) → ((t : ℕ) → t < rows → placed from words (h * rows + t) ≡ 0) → row_at h ≡ field.zero
  empty_row h q = row_value h (λ t. 0) q ∙ no_words a.low a.block.table.now vs (λ t. 0) (λ t. refl)

  value_is : part_value a piece ≡ field.mul (eq_at field us row) (value_at field vs (sums (placed start words)))
  value_is =
      ap (λ zs. value_at field zs (sums (placed from words))) (sym whole) ∙ sym (value_split field_ring us vs _)
      ∙ value_row field_ring us row_at row row_there (λ h l. empty_row h (λ t b. early h t l b)) (λ h l. empty_row h (λ t b. late h t l))
      ∙ ap (field.mul (eq_at field us row)) (row_value row (placed start words) (λ t b. own_row t))

  -- the last coordinates' part is what was left
  own_value : {rest : SplitPoint size} → After before a rest → blocks_value rest (λ y. base (placed start words y))
      ≡ value_at field vs (sums (placed start words))
  own_value r = rw (after_value a r (λ y. base (placed start words y)), own_left) refl

  pub in_row : {rest : SplitPoint size} → After before a rest → {eq sum x : Element} → Holds eq (eq_at field us row)
      → Holds sum (blocks_value rest (λ y. base (placed start words y))) → Holds x (field.mul (from_words eq) (from_words sum))
      → Holds x (part_value a piece)
  in_row r d-eq d-sum d = rw value_is (rw (read_as _ d-eq, read_as _ d-sum, own_value r) at d)
