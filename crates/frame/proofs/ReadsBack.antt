-- What is printed reads back as what it was. Assumes nothing.
use mathlib.Core.Path.{◌≡◌, refl, ap, ◌∙◌}
use mathlib.Core.Bool.{true}
use Prim.Native.Nat.{ℕ, zero, suc, ◌+◌, ◌*◌, ◌/◌, ◌%◌, ◌^◌, ◌<◌}
use native.Mathlib.Omega.{arith}
use mathlib.Core.List.{List, [], ◌∷◌, ◌++◌}
use lib.ListN.{length, get_or}
use lib.Seq.{get_or-append-add}
use Rattle.frame.specs.Hex.{is_hex, spelled, bytes_of, word_at, words_at, byte_digits, word_digits, ReadsBack}
use Rattle.frame.proofs.Glyphs.{glyph_digit}

-- the two digits of a byte are digits
pub byte_hex : (x : ℕ) (cs : List ℕ) → is_hex (byte_digits x ++ cs) ≡ is_hex cs
unfolding is_hex
byte_hex x cs = rw ((glyph_digit (x / 16 % 16) (omega arith)).0, (glyph_digit (x % 16) (omega arith)).0)

-- and spell it
pub byte_spelled : (x : ℕ) (cs : List ℕ) → x < 256 → spelled (byte_digits x ++ cs) ≡ x ∷ spelled cs
unfolding spelled
byte_spelled x cs h =
    let e : 16 * (x / 16 % 16) + x % 16 ≡ x = omega arith in
    rw ((glyph_digit (x / 16 % 16) (omega arith)).1, (glyph_digit (x % 16) (omega arith)).1, e)

module _ (a b c d : ℕ) (cs : List ℕ) where
  abbrev from_d : List ℕ
  from_d = byte_digits d ++ cs

  abbrev from_c : List ℕ
  from_c = byte_digits c ++ from_d

  abbrev from_b : List ℕ
  from_b = byte_digits b ++ from_c

  -- four bytes in a row
  four_hex : is_hex (byte_digits a ++ from_b) ≡ is_hex cs
  four_hex = byte_hex a from_b ∙ byte_hex b from_c ∙ byte_hex c from_d ∙ byte_hex d cs

  four_spelled : a < 256 → b < 256 → c < 256 → d < 256 → spelled (byte_digits a ++ from_b) ≡ a ∷ b ∷ c ∷ d ∷ spelled cs
  four_spelled ha hb hc hd =
      byte_spelled a from_b ha
      ∙ ap (λ (l : List ℕ). a ∷ l) (byte_spelled b from_c hb)
      ∙ ap (λ (l : List ℕ). a ∷ b ∷ l) (byte_spelled c from_d hc)
      ∙ ap (λ (l : List ℕ). a ∷ b ∷ c ∷ l) (byte_spelled d cs hd)

pub printed_is_hex : (ws : List ℕ) → is_hex (word_digits ws) ≡ true
unfolding word_digits is_hex
printed_is_hex [] = refl
printed_is_hex (w ∷ ws) =
    four_hex (w / 16777216) (w / 65536 % 256) (w / 256 % 256) (w % 256) (word_digits ws) ∙ printed_is_hex ws

-- the bytes of words, the highest first
unfoldable pub octets_of : List ℕ → List ℕ
octets_of [] = []
octets_of (w ∷ ws) = w / 16777216 ∷ w / 65536 % 256 ∷ w / 256 % 256 ∷ w % 256 ∷ octets_of ws

pub printed_spells : (ws : List ℕ) → ((i : ℕ) → get_or ws i 0 < 2 ^ 32) → spelled (word_digits ws) ≡ octets_of ws
unfolding word_digits spelled octets_of
printed_spells [] h = refl
printed_spells (w ∷ ws) h =
    let small : w < 2 ^ 32 = h 0 in
    four_spelled
    (w / 16777216)
    (w / 65536 % 256)
    (w / 256 % 256)
    (w % 256)
    (word_digits ws)
    (omega arith)
    (omega arith)
    (omega arith)
    (omega arith)
    ∙ ap (λ (l : List ℕ). w / 16777216 ∷ w / 65536 % 256 ∷ w / 256 % 256 ∷ w % 256 ∷ l) (printed_spells ws (λ i. h (suc i)))

-- past the bytes xs
module _ (xs bs : List ℕ) where
  past : (b j : ℕ) → get_or (xs ++ bs) (length xs + b + j) 0 ≡ get_or bs (b + j) 0
  past b j =
      let e : length xs + b + j ≡ length xs + (b + j) = omega arith in
      rw e (get_or-append-add xs bs (b + j) 0)

  past_word : (b : ℕ) → word_at (xs ++ bs) (length xs + b) ≡ word_at bs b
  past_word b = rw (past b 1, past b 2, past b 3, get_or-append-add xs bs b 0)

  pub past_words : (n b : ℕ) → words_at n (xs ++ bs) (length xs + b) ≡ words_at n bs b
  unfolding words_at
  past_words zero b = refl
  past_words (suc n) b =
      let e : length xs + b + 4 ≡ length xs + (b + 4) = omega arith in
      rw (past_word b, e, past_words n (b + 4))

pub octets_length : (ws : List ℕ) → length (octets_of ws) ≡ 4 * length ws
unfolding octets_of
octets_length [] = refl
octets_length (w ∷ ws) = omega (arith, octets_length ws)

pub octets_back : (ws : List ℕ) → ((i : ℕ) → get_or ws i 0 < 2 ^ 32) → words_at (length ws) (octets_of ws) 0 ≡ ws
unfolding words_at octets_of
octets_back [] h = refl
octets_back (w ∷ ws) h =
    let small : w < 2 ^ 32 = h 0 in
    let same : w / 16777216 * 16777216 + w / 65536 % 256 * 65536 + w / 256 % 256 * 256 + w % 256 ≡ w = omega arith in
    let here : List ℕ = w / 16777216 ∷ w / 65536 % 256 ∷ w / 256 % 256 ∷ w % 256 ∷ [] in
    let rest = past_words here (octets_of ws) (length ws) 0 in
    rw (same, rest) (ap (λ (l : List ℕ). w ∷ l) (octets_back ws (λ i. h (suc i))))

pub printed_bytes : (ws : List ℕ) → ((i : ℕ) → get_or ws i 0 < 2 ^ 32) → bytes_of (word_digits ws) ≡ octets_of ws
unfolding bytes_of
printed_bytes ws h = rw (printed_is_hex ws) (printed_spells ws h)

pub reads_back : ReadsBack
reads_back = record { words_back = λ ws h. rw (printed_bytes ws h) (octets_back ws h) }
