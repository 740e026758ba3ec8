-- The laws of `placed`: words at the rows of a table from a row on, and the words of its two halves. Assumes nothing.
use mathlib.Core.Path.{◌≡◌, refl, sym, ap, ◌∙◌}
use Prim.Native.Nat.{ℕ, ◌+◌, ◌-◌, ◌≤◌, ◌<◌}
use native.Mathlib.Nat.{sub_self}
use native.Mathlib.Decide.{dec_lt}
use native.Mathlib.Omega.{arith}
use mathlib.Core.List.{List}
use lib.ListN.{length, get_or, take, get_or-eq_default}
use lib.Seq.{get_or-take, length-take-le}
use borrow.Author.Tests.{lt-ltb, le-ltb}
use Rattle.algebra.proofs.Ring.{mul_zero}
use Rattle.field.specs.Field.{Ext, field, base}
use Rattle.field.proofs.Laws.{field_ring, base_zero}
use Rattle.table.specs.Table.{placed}
use Rattle.table.proofs.Parts.{after, after_length, after_word}

-- a word that is not there adds nothing
pub absent : (e : Ext) {w : ℕ} → w ≡ 0 → field.mul e (base w) ≡ field.zero
absent e q = ap (λ v. field.mul e (base v)) q ∙ ap (field.mul e) base_zero ∙ mul_zero field_ring e

-- what is left of a sum after a part of each
pub left_over : (a b s c : ℕ) {n : ℕ} → s ≤ a → c ≤ b → a + b ≤ s + c + n → a - s + (b - c) ≤ n
left_over a b s c h k m = omega arith

module _ (from : ℕ) (ws : List ℕ) where
  -- a row before the words
  pub placed_before : (y : ℕ) → y < from → placed from ws y ≡ 0
  unfolding placed
  placed_before y h = rw (lt-ltb y from h)

  -- a row from the first word on
  placed_from : (y : ℕ) → from ≤ y → placed from ws y ≡ get_or ws (y - from) 0
  unfolding placed
  placed_from y h = rw (le-ltb y from h)

  -- the row of word i
  pub placed_word : (i : ℕ) → placed from ws (from + i) ≡ get_or ws i 0
  placed_word i = let q : from + i - from ≡ i = omega arith in placed_from (from + i) (omega arith) ∙ ap (λ n. get_or ws n 0) q

  -- a row after the words
  pub placed_after : (y : ℕ) → from + length ws ≤ y → placed from ws y ≡ 0
  placed_after y h = placed_from y (omega arith) ∙ get_or-eq_default ws 0 {n = y - from} (omega arith)

  -- no words
  pub placed_none : length ws ≡ 0 → (y : ℕ) → placed from ws y ≡ 0
  placed_none e y = go (dec_lt y from)
    where
      go : Dec (y < from) → placed from ws y ≡ 0
      go (yes h) = placed_before y h
      go (no h) = placed_after y (omega (arith, e))

-- the first n of the words
pub placed_take : (from n : ℕ) (ws : List ℕ) (y : ℕ) → y < from + n → placed from (take n ws) y ≡ placed from ws y
placed_take from n ws y h = go (dec_lt y from)
  where
    go : Dec (y < from) → placed from (take n ws) y ≡ placed from ws y
    go (yes k) = placed_before from (take n ws) y k ∙ sym (placed_before from ws y k)
    go (no k) =
        placed_from from (take n ws) y (omega arith) ∙ get_or-take n ws (y - from) 0 (omega arith)
        ∙ sym (placed_from from ws y (omega arith))

-- all words are there from the first row on
pub placed_zero : (ws : List ℕ) (y : ℕ) → placed 0 ws y ≡ get_or ws y 0
placed_zero ws y = let q : y - 0 ≡ y = omega arith in placed_from 0 ws y (omega arith) ∙ ap (λ n. get_or ws n 0) q

-- the word of a row of the high half, counted from the cut
same_word : (half from start cut y : ℕ) → start + cut ≡ half → start ≤ from → from - start ≤ y
    → (from ≤ half + y) × (cut + (y - (from - start)) ≡ half + y - from)
same_word half from start cut y q r h = (omega (arith, q), omega (arith, q))

-- The words of a table of two halves, the first `cut` of them in the low half, where they stand from row `start` on.
module _ (half from : ℕ) (ws : List ℕ) (start cut : ℕ) (s : start ≡ from - (from - half))
    (c : cut ≡ length ws - (length ws - (half - start))) where
  pub placed_low : (y : ℕ) → y < half → placed start (take cut ws) y ≡ placed from ws y
  placed_low y b = go (dec_lt y from) (dec_lt y (start + cut))
    where
      l : length (take cut ws) ≡ cut
      l = length-take-le cut ws (omega (arith, c))

      go : Dec (y < from) → Dec (y < start + cut) → placed start (take cut ws) y ≡ placed from ws y
      go (yes h) _ = placed_before start (take cut ws) y (omega (arith, s)) ∙ sym (placed_before from ws y h)
      go (no h) (yes k) =
          let q : start ≡ from = omega (arith, s) in
          placed_from start (take cut ws) y (omega (arith, q)) ∙ get_or-take cut ws (y - start) 0 (omega (arith, q))
          ∙ ap (λ n. get_or ws (y - n) 0) q ∙ sym (placed_from from ws y (omega arith))
      go (no h) (no k) =
          placed_after start (take cut ws) y (omega (arith, l))
          ∙ sym (placed_after from ws y (omega (arith, s, c)))

  pub placed_high : (y : ℕ) → placed (from - start) (after cut ws) y ≡ placed from ws (half + y)
  placed_high y = go (dec_lt (start + cut) half) (dec_lt y (from - start))
    where
      go : Dec (start + cut < half) → Dec (y < from - start) → placed (from - start) (after cut ws) y ≡ placed from ws (half + y)
      go _ (yes k) = placed_before (from - start) (after cut ws) y k ∙ sym (placed_before from ws (half + y) (omega (arith, s)))
      go (yes h) (no k) =
          let q : start ≡ from = omega (arith, s) in
          let r : cut ≡ length ws = omega (arith, c) in
          placed_none (from - start) (after cut ws) (after_length cut ws ∙ ap (λ n. length ws - n) r ∙ sub_self (length ws)) y
          ∙ sym (placed_after from ws (half + y) (omega (arith, q, r)))
      go (no h) (no k) =
          let q : start + cut ≡ half = omega (arith, s, c) in
          let r : start ≤ from = omega (arith, s) in
          let d : from - start ≤ y = omega arith in
          let same = same_word half from start cut y q r d in
          placed_from (from - start) (after cut ws) y d ∙ after_word cut ws (y - (from - start))
          ∙ ap (λ n. get_or ws n 0) same.1 ∙ sym (placed_from from ws (half + y) same.0)

-- where the words stand that are not before word `first`
stands : (first from cut : ℕ) → cut ≤ first - from → from + cut - first ≡ from - first
stands first from cut h = omega arith

not_low : (first from : ℕ) → from - (from - (from - first)) ≡ from - first
not_low first from = omega arith

not_before : (first from : ℕ) → first - (from - (from - first)) ≡ first - from
not_before first from = omega arith

-- what is left of a length that ends n after `first`
left_of : (first from l cut n : ℕ) → cut ≡ l - (l - (first - from)) → from + l ≤ first + n → from - first + (l - cut) ≤ n
left_of first from l cut n c h = omega arith

-- The words of a table from word `first` on: those of the list from word `cut` on, and where they stand.
module _ (first from : ℕ) (ws : List ℕ) (cut place : ℕ) (c : cut ≡ length ws - (length ws - (first - from)))
    (q : place ≡ from + cut - first) where
  place_is : place ≡ from - first
  place_is = let h : cut ≤ first - from = omega (arith, c) in q ∙ stands first from cut h

  pub placed_further : (y : ℕ) → placed place (after cut ws) y ≡ placed from ws (first + y)
  placed_further y =
      ap (λ n. placed n (after cut ws) y) (place_is ∙ sym (not_low first from))
      ∙ placed_high first from ws (from - (from - first)) cut refl
      (c ∙ ap (λ n. length ws - (length ws - n)) (sym (not_before first from))) y

  pub further_fits : (n : ℕ) → from + length ws ≤ first + n → place + length (after cut ws) ≤ n
  further_fits n h = rw (place_is, after_length cut ws) (left_of first from (length ws) cut n c h)
