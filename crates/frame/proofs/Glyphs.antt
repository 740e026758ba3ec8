-- Digits: that the digit of a value below 16 is one and has that value. Assumes nothing.
use mathlib.Core.Path.{◌≡◌, refl, ◌∙◌}
use mathlib.Core.Bool.{Bool, true, false}
use Prim.Native.Nat.{ℕ, ◌+◌, ◌-◌, ◌≤◌, ◌<◌}
use native.Mathlib.Omega.{arith}
use lib.Dec.{ltb}
use borrow.Author.Tests.{ltb-true, ltb-false, le-leb, lt-leb}
use Rattle.frame.specs.Hex.{is_digit, digit_of, glyph}

number_digit : (c : ℕ) → 48 ≤ c → c ≤ 57 → (is_digit c ≡ true) × (digit_of c ≡ c - 48)
number_digit c l h =
    let n : c < 97 = omega arith in
    (rw (le-leb 48 c l, le-leb c 57 h), rw (lt-leb 97 c n))

letter_digit : (c : ℕ) → 97 ≤ c → c ≤ 102 → (is_digit c ≡ true) × (digit_of c ≡ c - 87)
letter_digit c l h =
    let k : 48 ≤ c = omega arith in
    let m : 57 < c = omega arith in
    (rw (le-leb 48 c k, lt-leb c 57 m, le-leb 97 c l, le-leb c 102 h), rw (le-leb 97 c l))

-- the digit of a value below 16
pub glyph_digit : (d : ℕ) → d < 16 → (is_digit (glyph d) ≡ true) × (digit_of (glyph d) ≡ d)
glyph_digit d small = go (ltb d 10) refl
  where
    go : (t : Bool) → ltb d 10 ≡ t → (is_digit (glyph d) ≡ true) × (digit_of (glyph d) ≡ d)
    go true e =
        let l : d < 10 = ltb-true d 10 e in
        let n = number_digit (48 + d) (omega arith) (omega arith) in
        rw e (n.0, n.1 ∙ omega arith)
    go false e =
        let l : 10 ≤ d = ltb-false d 10 e in
        let n = letter_digit (87 + d) (omega arith) (omega arith) in
        rw e (n.0, n.1 ∙ omega arith)
