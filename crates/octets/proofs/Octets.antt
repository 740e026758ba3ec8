-- Laws of words in bytes: lengths, elements, parts, and what fits. Assumes nothing.
use mathlib.Core.Path.{◌≡◌, refl, ap, ◌∙◌}
use mathlib.Core.List.{List, [], ◌∷◌, ◌++◌}
use Prim.Native.Nat.{ℕ, zero, suc, ◌+◌, ◌*◌, ◌/◌, ◌%◌, ◌<◌, ◌^◌}
use native.Mathlib.Omega.{arith}
use lib.ListN.{length, get_or, take, drop}
use lib.Seq.{take_all}
use Rattle.octets.specs.Octets.{word_of, word_at, words, octets}

-- the words of bytes

pub words_length : (bs : List ℕ) → length (words bs) ≡ length bs / 4
unfolding words
words_length [] = refl
words_length (a ∷ []) = refl
words_length (a ∷ b ∷ []) = refl
words_length (a ∷ b ∷ c ∷ []) = refl
words_length (a ∷ b ∷ c ∷ d ∷ bs) = omega (arith, words_length bs)

-- four bytes more in front, one word later
next : (a b c d : ℕ) (bs : List ℕ) (i : ℕ) → word_at bs i ≡ word_at (a ∷ b ∷ c ∷ d ∷ bs) (suc i)
next a b c d bs i =
    let e0 : 4 * suc i ≡ suc (suc (suc (suc (4 * i)))) = omega arith in
    let e1 : 4 * suc i + 1 ≡ suc (suc (suc (suc (4 * i + 1)))) = omega arith in
    let e2 : 4 * suc i + 2 ≡ suc (suc (suc (suc (4 * i + 2)))) = omega arith in
    let e3 : 4 * suc i + 3 ≡ suc (suc (suc (suc (4 * i + 3)))) = omega arith in
    rw (e3, e2, e1, e0) refl

pub words_at : (bs : List ℕ) (i : ℕ) → i < length bs / 4 → get_or (words bs) i 0 ≡ word_at bs i
unfolding words
words_at [] i h = absurd (omega arith)
words_at (a ∷ []) i h = absurd (omega arith)
words_at (a ∷ b ∷ []) i h = absurd (omega arith)
words_at (a ∷ b ∷ c ∷ []) i h = absurd (omega arith)
words_at (a ∷ b ∷ c ∷ d ∷ bs) zero h = refl
words_at (a ∷ b ∷ c ∷ d ∷ bs) (suc i) h = words_at bs i (omega arith) ∙ next a b c d bs i

four_more : (n : ℕ) → 4 * suc n ≡ suc (suc (suc (suc (4 * n))))
four_more n = omega arith

pub words_drop : (n : ℕ) (bs : List ℕ) → words (drop (4 * n) bs) ≡ drop n (words bs)
unfolding words
words_drop zero bs = refl
words_drop (suc n) [] = rw (four_more n) refl
words_drop (suc n) (a ∷ []) = rw (four_more n) refl
words_drop (suc n) (a ∷ b ∷ []) = rw (four_more n) refl
words_drop (suc n) (a ∷ b ∷ c ∷ []) = rw (four_more n) refl
words_drop (suc n) (a ∷ b ∷ c ∷ d ∷ bs) = rw (four_more n) (words_drop n bs)

pub words_take : (n : ℕ) (bs : List ℕ) → words (take (4 * n) bs) ≡ take n (words bs)
unfolding words
words_take zero bs = refl
words_take (suc n) [] = rw (four_more n) refl
words_take (suc n) (a ∷ []) = rw (four_more n) refl
words_take (suc n) (a ∷ b ∷ []) = rw (four_more n) refl
words_take (suc n) (a ∷ b ∷ c ∷ []) = rw (four_more n) refl
words_take (suc n) (a ∷ b ∷ c ∷ d ∷ bs) = rw (four_more n) (ap (λ ws. word_of a b c d ∷ ws) (words_take n bs))

pub words_append : (xs ys : List ℕ) → length xs % 4 ≡ 0 → words (xs ++ ys) ≡ words xs ++ words ys
unfolding words
words_append [] ys h = refl
words_append (a ∷ []) ys h = absurd (omega arith)
words_append (a ∷ b ∷ []) ys h = absurd (omega arith)
words_append (a ∷ b ∷ c ∷ []) ys h = absurd (omega arith)
words_append (a ∷ b ∷ c ∷ d ∷ xs) ys h = ap (λ ws. word_of a b c d ∷ ws) (words_append xs ys (omega arith))

-- decode from word 0 into a slice of as many words as the bytes make
pub words_whole : (n : ℕ) (bs : List ℕ) → 4 * n ≡ length bs → take n (drop 0 (words bs)) ≡ words bs
words_whole n bs e = take_all n (words bs) (omega (arith, words_length bs))

pub words_fit : (bs : List ℕ) → ((i : ℕ) → get_or bs i 0 < 2 ^ 8) → (i : ℕ) → get_or (words bs) i 0 < 2 ^ 32
unfolding words
words_fit [] h i = omega arith
words_fit (a ∷ []) h i = omega arith
words_fit (a ∷ b ∷ []) h i = omega arith
words_fit (a ∷ b ∷ c ∷ []) h i = omega arith
words_fit (a ∷ b ∷ c ∷ d ∷ bs) h zero =
    let ha : a < 256 = h 0 in
    let hb : b < 256 = h 1 in
    let hc : c < 256 = h 2 in
    let hd : d < 256 = h 3 in
    omega arith
words_fit (a ∷ b ∷ c ∷ d ∷ bs) h (suc i) = words_fit bs (λ k. h (suc (suc (suc (suc k))))) i

-- the bytes of words

pub octets_length : (ws : List ℕ) → length (octets ws) ≡ 4 * length ws
unfolding octets
octets_length [] = refl
octets_length (w ∷ ws) = omega (arith, octets_length ws)

pub octets_append : (xs ys : List ℕ) → octets (xs ++ ys) ≡ octets xs ++ octets ys
unfolding octets
octets_append [] ys = refl
octets_append (x ∷ xs) ys = ap (λ bs. x % 256 ∷ x / 256 % 256 ∷ x / 65536 % 256 ∷ x / 16777216 ∷ bs) (octets_append xs ys)

pub octets_fit : (ws : List ℕ) → ((i : ℕ) → get_or ws i 0 < 2 ^ 32) → (i : ℕ) → get_or (octets ws) i 0 < 2 ^ 8
unfolding octets
octets_fit [] h i = omega arith
octets_fit (w ∷ ws) h zero = omega arith
octets_fit (w ∷ ws) h (suc zero) = omega arith
octets_fit (w ∷ ws) h (suc (suc zero)) = omega arith
octets_fit (w ∷ ws) h (suc (suc (suc zero))) = let hw : w < 2 ^ 32 = h 0 in omega arith
octets_fit (w ∷ ws) h (suc (suc (suc (suc i)))) = octets_fit ws (λ k. h (suc k)) i
