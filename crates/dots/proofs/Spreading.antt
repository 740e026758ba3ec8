-- A room that is filled with a table's words, place after place. Assumes nothing.
use mathlib.Core.Path.{◌≡◌, ap, ap₂, ◌∙◌, subst}
use Prim.Native.Nat.{ℕ, ◌+◌, ◌*◌, ◌/◌, ◌≤◌, ◌<◌}
use native.Mathlib.Decide.{dec_lt}
use native.Mathlib.Nat.{mul-le-mul_right, add-mul, one-mul, zero-mul, add-zero}
use native.Mathlib.Omega.{arith}
use Rattle.std.proofs.lemmas.Nat.{div-mul-add, mod-mul-add}
use Rattle.std.proofs.lemmas.List.{get_or-set_same, get_or-set_other, length-set}
use mathlib.Core.List.{List}
use lib.ListN.{length, get_or, set}
use Rattle.dots.specs.Dots.{Whole, Spread, Filled, place}

pub none : {size : ℕ} {table room : List ℕ} → length room ≡ size → Filled size table (0 * (size / 4)) room
none {size} l = record { size = l; each = λ i h. absurd (omega (arith, zero-mul (size / 4))) }

-- coordinate c of weight y is at its place
pub placed_there : (size c y : ℕ) → y < size / 4 → place size (c * (size / 4) + y) ≡ 4 * y + c
placed_there size c y b = ap₂ (λ a d. 4 * a + d) (mod-mul-add c (size / 4) y b) (div-mul-add c (size / 4) y b)

module _ {size : ℕ} {table : List ℕ} where
  -- a place is there
  pub place_there : Whole size table → (c y : ℕ) → c < 4 → y < size / 4 → c * (size / 4) + y < size
  place_there w c y l b =
      let m : c * (size / 4) ≤ 3 * (size / 4) = mul-le-mul_right (size / 4) (omega arith) in
      omega (arith, m, w.fours)

  -- one word more
  pub more : {n m : ℕ} {room : List ℕ} {x : ℕ} → Filled size table n room → n < size → x ≡ get_or table (place size n) 0 → m ≡ n + 1
      → Filled size table m (set room n x)
  more {n} {m} {room} {x} f l e q =
      record { size = length-set room n x ∙ f.size; each = each }
    where
      each : (i : ℕ) → i < m → get_or (set room n x) i 0 ≡ get_or table (place size i) 0
      each i b = go (dec_lt i n)
        where
          go : Dec (i < n) → get_or (set room n x) i 0 ≡ get_or table (place size i) 0
          go (yes h) = get_or-set_other room n i x 0 (λ j. omega (arith, j, h)) ∙ f.each i h
          go (no h) =
              let j : n ≡ i = omega (arith, h, b, q) in
              subst (λ k. get_or (set room n x) k 0 ≡ get_or table (place size k) 0) j
              (get_or-set_same room n x 0 (omega (arith, l, f.size)) ∙ e)

  pub all : Whole size table → {room : List ℕ} → Filled size table (4 * (size / 4)) room → Spread size table room
  all w {room} f =
      record {
        whole = w;
        size = f.size;
        same = λ c y l b.
            f.each (c * (size / 4) + y) (omega (arith, place_there w c y l b, w.fours))
            ∙ ap (λ i. get_or table i 0) (placed_there size c y b);
      }

  -- those of the coordinates before c
  pub start : (n : ℕ) {room : List ℕ} → Filled size table n room → Filled size table (n + 0) room
  start n {room} f = rw (add-zero n) f

  -- and those of c
  pub ended : (c : ℕ) {y : ℕ} {room : List ℕ} → y ≡ size / 4 → Filled size table (c * (size / 4) + y) room
      → Filled size table ((c + 1) * (size / 4)) room
  ended c {y} {room} e f =
      let q : c * (size / 4) + y ≡ (c + 1) * (size / 4) = omega (arith, e, add-mul c 1 (size / 4), one-mul (size / 4)) in
      rw q at f
