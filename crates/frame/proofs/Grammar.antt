-- How long what is spelled, read and printed is, word by word and byte by byte. Assumes nothing.
use mathlib.Core.Path.{◌≡◌, refl, ap}
use mathlib.Core.Bool.{true, ◌&&◌}
use Prim.Native.Nat.{ℕ, zero, suc, ◌+◌, ◌*◌, ◌/◌, ◌<◌}
use native.Mathlib.Omega.{arith}
use mathlib.Core.List.{List, [], ◌∷◌}
use lib.ListN.{length, get_or}
use Rattle.frame.specs.Hex.{is_digit, digit_of, is_hex, spelled, words_at, word_digits}
use Rattle.std.proofs.lemmas.Bool.{and_parts}

-- two digits a byte
pub spelled_length : (line : List ℕ) → length (spelled line) ≡ length line / 2
unfolding spelled
spelled_length [] = refl
spelled_length (c ∷ []) = refl
spelled_length (c ∷ d ∷ cs) = omega (arith, spelled_length cs)

pub words_length : (n : ℕ) (bs : List ℕ) (b : ℕ) → length (words_at n bs b) ≡ n
unfolding words_at
words_length zero bs b = refl
words_length (suc n) bs b = ap suc (words_length n bs (b + 4))

-- eight digits a word
pub digits_length : (ws : List ℕ) → length (word_digits ws) ≡ 8 * length ws
unfolding word_digits
digits_length [] = refl
digits_length (w ∷ ws) = omega (arith, digits_length ws)

-- byte k of what a line spells
pub at_spelled : (line : List ℕ) (k : ℕ) → 2 * k + 1 < length line
    → get_or (spelled line) k 0 ≡ 16 * digit_of (get_or line (2 * k) 0) + digit_of (get_or line (2 * k + 1) 0)
unfolding spelled
at_spelled [] k h = omega arith
at_spelled (c ∷ []) k h = let no : ⊥ = omega arith in absurd no
at_spelled (c ∷ d ∷ cs) zero h = refl
at_spelled (c ∷ d ∷ cs) (suc k) h =
    let e : 2 * suc k ≡ suc (suc (2 * k)) = omega arith in
    let f : suc (suc (2 * k)) + 1 ≡ suc (suc (2 * k + 1)) = omega arith in
    rw (e, f) (at_spelled cs k (omega arith))

hex_parts : (c d : ℕ) (cs : List ℕ) → is_hex (c ∷ d ∷ cs) ≡ true → (is_digit c ≡ true) × (is_digit d ≡ true) × (is_hex cs ≡ true)
unfolding is_hex
hex_parts c d cs h =
    let both = and_parts (is_digit c && is_digit d) (is_hex cs) h in
    let two = and_parts (is_digit c) (is_digit d) both.0 in
    (two.0, two.1, both.1)

-- each character of a line of digits is one
pub hex_at : (line : List ℕ) → is_hex line ≡ true → (j : ℕ) → j < length line → is_digit (get_or line j 0) ≡ true
unfolding is_hex
hex_at [] h j l = let no : ⊥ = omega arith in absurd no
hex_at (c ∷ []) h j l = absurd (let z : ◌≡◌ {A = ℕ} 0 1 = cc in omega arith)
hex_at (c ∷ d ∷ cs) h zero l = (hex_parts c d cs h).0
hex_at (c ∷ d ∷ cs) h (suc zero) l = (hex_parts c d cs h).1
hex_at (c ∷ d ∷ cs) h (suc (suc j)) l = hex_at cs (hex_parts c d cs h).2 j (omega arith)
