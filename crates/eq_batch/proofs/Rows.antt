-- The rows that `gather` goes over: what is left of the points, and the row that comes. Assumes nothing.
use mathlib.Core.Path.{◌≡◌, refl, sym, ap, ◌∙◌}
use mathlib.Core.Bool.{false}
use Prim.Native.Nat.{ℕ, zero, suc, ◌+◌, ◌*◌, ◌≤◌, ◌<◌}
use native.Mathlib.Nat.{suc-mul, zero-mul, zero-add}
use native.Mathlib.Omega.{arith}
use mathlib.Core.List.{List, ◌++◌}
use lib.ListN.{length, take, drop, replicate, length-append}
use lib.Seq.{take_at, drop_at}
use Rattle.algebra.specs.Words.{unreduced}
use Rattle.algebra.proofs.Words.{unreduced_drop, unreduced_take}
use Rattle.field.specs.Field.{p, p_pos, from_words, Holds}
use Rattle.field.specs.declared.Element.{Element}
use Rattle.table.specs.Table.{get_at, put_at, element_at}
use Rattle.table.proofs.Parts.{get_take, get_drop}
use Rattle.eq_batch.specs.Inner.{Column, Gathered}
use Rattle.eq_batch.proofs.Gathering.{Gathering, start, turn, finish}

-- before row i: m rows are left
pub record Rows (n w j : ℕ) (points point left : List ℕ) (size m i : ℕ) : Type 0 where
  pub size_is : size ≡ 4 * w
  pub count : m + i ≡ n
  pub enough : 4 * (m * w) ≤ length left
  pub same : (y : ℕ) → y < m * w → get_at left y ≡ get_at points (i * w + y)
  pub below : unreduced p left ≡ false
  pub made : Gathering n w j i points point

-- before the first row
pub begin : {n w j : ℕ} {points point left : List ℕ} {size m i : ℕ} → Column n w j points → point ≡ replicate 80 0 → left ≡ points
    → size ≡ 4 * w → m ≡ n → i ≡ 0 → Rows n w j points point left size m i
begin {n} {w} {j} {points} c a e s q z =
    rw (z, e, q)
    (record {
      size_is = s;
      count = omega arith;
      enough = c.rows;
      same = λ y h. rw (zero-mul, zero-add) refl;
      below = c.below;
      made = start n w j points a;
    })

module _ {n w j : ℕ} {points : List ℕ} (c : Column n w j points) {point left : List ℕ} {size m i : ℕ} (d : Rows n w j points point left size m i) where
  -- a row comes
  module _ (row later : List ℕ) (e : left ≡ row ++ later) (h : length row ≡ size) where
    front : row ≡ take (4 * w) left
    front = rw (e) (sym (take_at row later (4 * w) (h ∙ d.size_is)))

    rest : later ≡ drop (4 * w) left
    rest = rw (e) (sym (drop_at row later (4 * w) (h ∙ d.size_is)))

    pub room : (4 * j + 3 < length row) × (unreduced p row ≡ false)
    room = (omega (arith, h, d.size_is, c.within), rw front (unreduced_take p p_pos (4 * w) left d.below))

    module _ (k : ℕ) (q : k + 1 ≡ m) where
      rows : m * w ≡ k * w + w
      rows = omega (arith, ap (λ x. x * w) q, suc-mul k w)

      row_is : get_at row j ≡ get_at points (i * w + j)
      row_is = rw front (get_take w j left c.within ∙ d.same j (omega (arith, rows, c.within)))

      pub next : {x : Element} {point' : List ℕ} {place size' i' : ℕ} → Holds x (element_at row j) → place ≡ i → point' ≡ put_at point place x
          → size' ≡ size → i' ≡ i + 1 → Rows n w j points point' later size' k i'
      next g t u s z =
          rw z
          (record {
            size_is = s ∙ d.size_is;
            count = omega (arith, d.count, q);
            enough = omega (arith, ap length e, length-append row later, h, d.size_is, d.enough, rows);
            same = λ y b.
                let at : i * w + (w + y) ≡ (i + 1) * w + y = omega (arith, suc-mul i w) in
                rw (rest, ← at) (get_drop w y left ∙ d.same (w + y) (omega (arith, rows, b)));
            below = rw rest (unreduced_drop p p_pos (4 * w) left d.below);
            made = turn n w j i points point d.made (omega (arith, d.count, q)) c.few (rw (ap from_words row_is) at g) (rw t at u);
          })

  -- no row comes
  pub ended : (0 < m → length left < size) → Gathered n w j points point
  ended none = finish n w j i points point d.made (omega (arith, d.count, all m refl))
    where
      all : (x : ℕ) → x ≡ m → x ≡ 0
      all zero q = refl
      all (suc x) q = absurd (omega (arith, none (omega arith), d.size_is, d.enough, ap (λ v. v * w) q, suc-mul x w))
