-- Words as bytes (document 01, "Beside these": "words as four bytes, lowest first"). Assumes nothing.
use Rattle.std.specs.Prelude.{◌≡◌, ℕ, ◌+◌, ◌*◌, ◌/◌, ◌%◌, ◌<◌, ◌^◌, List, [], ◌∷◌, length, get_or}

-- the word of four bytes
abbrev pub word_of : ℕ → ℕ → ℕ → ℕ → ℕ
word_of a b c d = a + b * 256 + c * 65536 + d * 16777216

-- word i of bytes
abbrev pub word_at : List ℕ → ℕ → ℕ
word_at bs i = word_of (get_or bs (4 * i) 0) (get_or bs (4 * i + 1) 0) (get_or bs (4 * i + 2) 0) (get_or bs (4 * i + 3) 0)

-- the words of bytes; bytes at the end that make no word are left out
unfoldable pub words : List ℕ → List ℕ
words [] = []
words (a ∷ []) = []
words (a ∷ b ∷ []) = []
words (a ∷ b ∷ c ∷ []) = []
words (a ∷ b ∷ c ∷ d ∷ bs) = word_of a b c d ∷ words bs

-- the bytes of words
unfoldable pub octets : List ℕ → List ℕ
octets [] = []
octets (w ∷ ws) = w % 256 ∷ w / 256 % 256 ∷ w / 65536 % 256 ∷ w / 16777216 ∷ octets ws

-- the two are inverse, on numbers that fit words and bytes
pub record Inverse : Type 0 where
  pub back_to_words : (ws : List ℕ) → ((i : ℕ) → get_or ws i 0 < 2 ^ 32) → words (octets ws) ≡ ws
  pub back_to_octets : (bs : List ℕ) → ((i : ℕ) → get_or bs i 0 < 2 ^ 8) → length bs % 4 ≡ 0 → octets (words bs) ≡ bs
