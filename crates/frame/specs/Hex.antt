-- Lines of lower-case hexadecimal (document 01, "Frames"). Assumes nothing.
use Rattle.std.specs.Prelude.{◌≡◌, ℕ, zero, suc, ◌+◌, ◌-◌, ◌*◌, ◌/◌, ◌%◌, ◌^◌, ◌<◌, Bool, true, false, cond, ◌&&◌, ◌||◌, List, [], ◌∷◌, ◌++◌, leb, ltb, length, get_or}

-- '0' to '9', 'a' to 'f'
abbrev pub is_digit : ℕ → Bool
is_digit c = (leb 48 c && leb c 57) || (leb 97 c && leb c 102)

-- a digit's value
abbrev pub digit_of : ℕ → ℕ
digit_of c = cond (leb 97 c) (c - 87) (c - 48)

-- the digit of a value
abbrev pub glyph : ℕ → ℕ
glyph d = cond (ltb d 10) (48 + d) (87 + d)

-- digits alone, two a byte
unfoldable pub is_hex : List ℕ → Bool
is_hex [] = true
is_hex (c ∷ []) = false
is_hex (c ∷ d ∷ cs) = is_digit c && is_digit d && is_hex cs

-- the bytes that digits spell
unfoldable pub spelled : List ℕ → List ℕ
spelled [] = []
spelled (c ∷ []) = []
spelled (c ∷ d ∷ cs) = (16 * digit_of c + digit_of d) ∷ spelled cs

-- the bytes of a line; none where it is not lower-case hexadecimal
unfoldable pub bytes_of : List ℕ → List ℕ
bytes_of line = cond (is_hex line) (spelled line) []

-- "words as 8 digits, highest first": the word of the four bytes from byte b on
abbrev pub word_at : List ℕ → ℕ → ℕ
word_at bs b = get_or bs b 0 * 16777216 + get_or bs (b + 1) 0 * 65536 + get_or bs (b + 2) 0 * 256 + get_or bs (b + 3) 0

-- n words, from byte b on
unfoldable pub words_at : ℕ → List ℕ → ℕ → List ℕ
words_at zero bs b = []
words_at (suc n) bs b = word_at bs b ∷ words_at n bs (b + 4)

-- the two digits of a byte
abbrev pub byte_digits : ℕ → List ℕ
byte_digits x = glyph (x / 16 % 16) ∷ glyph (x % 16) ∷ []

-- the digits of words
unfoldable pub word_digits : List ℕ → List ℕ
word_digits [] = []
word_digits (w ∷ ws) =
    byte_digits (w / 16777216) ++ byte_digits (w / 65536 % 256) ++ byte_digits (w / 256 % 256) ++ byte_digits (w % 256) ++ word_digits ws

-- what is printed reads back as what it was
pub record ReadsBack : Type 0 where
  pub words_back : (ws : List ℕ) → ((i : ℕ) → get_or ws i 0 < 2 ^ 32) → words_at (length ws) (bytes_of (word_digits ws)) 0 ≡ ws
