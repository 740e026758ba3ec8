-- The frames as they are written (document 01, "Frames"), digit by digit; and that each reads back as the fields that were written.
-- Assumes nothing.
use Rattle.std.specs.Prelude.{◌≡◌, ℕ, ◌≤◌, ◌<◌, ◌^◌, List, ◌++◌, length, get_or, Some}
use Rattle.multilinear.specs.declared.Side.{Side}
use Rattle.multilinear.specs.declared.Weight.{Weight}
use Rattle.multilinear.specs.Bytes.{side_byte, weight_byte}
use Rattle.field.specs.declared.Element.{Element}
use Rattle.frame.specs.declared.Frame.TheVariants.{Open, Coordinate, Words, Close}
use Rattle.frame.specs.Hex.{byte_digits, word_digits}
use Rattle.frame.specs.Frame.{frame_of}

-- "`01` side (00 prefix, 01 suffix), weight (00 plain, 01 shifted, 02 next), n, k (a byte each), scale"; "an element from c0 to c3"
abbrev pub open_line : Side → Weight → ℕ → ℕ → Element → List ℕ
open_line side weight n k scale =
    byte_digits 1
    ++ byte_digits (side_byte side)
    ++ byte_digits (weight_byte weight)
    ++ byte_digits n
    ++ byte_digits k
    ++ word_digits scale.c

-- "`02` index byte, coordinate"
abbrev pub coordinate_line : ℕ → Element → List ℕ
coordinate_line index coordinate = byte_digits 2 ++ byte_digits index ++ word_digits coordinate.c

-- "`03` count byte (0 to 16), that many words"
abbrev pub words_line : List ℕ → List ℕ
words_line words = byte_digits 3 ++ byte_digits (length words) ++ word_digits words

-- "`04` closes"
abbrev pub close_line : List ℕ
close_line = byte_digits 4

-- four words of 32 bits
pub record Whole (e : Element) : Type 0 where
  pub four : length e.c ≡ 4
  pub fit : (i : ℕ) → get_or e.c i 0 < 2 ^ 32

-- what is written reads back as what it was
pub record Written : Type 0 where
  pub open_back : (side : Side) (weight : Weight) (n k : ℕ) (scale : Element) → n < 256 → k < 256 → Whole scale
      → frame_of (open_line side weight n k scale) ≡ Some (Open (record { side = side; weight = weight; n = n; k = k; scale = scale }))
  pub coordinate_back : (index : ℕ) (coordinate : Element) → index < 256 → Whole coordinate
      → frame_of (coordinate_line index coordinate) ≡ Some (Coordinate index coordinate)
  pub words_back : (words : List ℕ) → length words ≤ 16 → ((i : ℕ) → get_or words i 0 < 2 ^ 32)
      → frame_of (words_line words) ≡ Some (Words words)
  pub close_back : frame_of close_line ≡ Some Close
