-- The frames (document 01, "Frames"; document 02, request (f)): which one the bytes of a line are, and its fields. Assumes nothing.
--
--     01 side weight n k scale
--     02 index coordinate
--     03 count words
--     04
use Rattle.std.specs.Prelude.{ℕ, ◌+◌, ◌*◌, Bool, cond, ◌&&◌, List, eqb, leb, ltb, length, get_or, Option, Some, None}
use Rattle.multilinear.specs.declared.Side.{Side}
use Rattle.multilinear.specs.declared.Side.TheVariants.{Prefix, Suffix}
use Rattle.multilinear.specs.declared.Weight.{Weight}
use Rattle.multilinear.specs.declared.Weight.TheVariants.{Plain, Shifted, Next, Cyclic}
use Rattle.field.specs.declared.Element.{Element}
use Rattle.frame.specs.declared.Frame.{Frame}
use Rattle.frame.specs.declared.Frame.TheVariants.{Open, Coordinate, Words, Close}
use Rattle.frame.specs.Hex.{bytes_of, words_at}

-- a byte, 0 where there is none
abbrev pub byte_at : List ℕ → ℕ → ℕ
byte_at bs i = get_or bs i 0

-- the element of the 16 bytes from byte b on: "an element from c0 to c3"
abbrev pub element_of : List ℕ → ℕ → Element
element_of bs b = record { c = words_at 4 bs b }

-- so many bytes, the first of them this
abbrev pub starts : List ℕ → ℕ → ℕ → Bool
starts bs size first = eqb (length bs) size && eqb (byte_at bs 0) first

-- "`01` side (00 prefix, 01 suffix), weight (00 plain, 01 shifted, 02 next), n, k (a byte each), scale"; and 03 cyclic
abbrev pub is_open : List ℕ → Bool
is_open bs = starts bs 21 1 && ltb (byte_at bs 1) 2 && ltb (byte_at bs 2) 4

abbrev pub side_of : List ℕ → Side
side_of bs = cond (eqb (byte_at bs 1) 0) Prefix Suffix

abbrev pub weight_of : List ℕ → Weight
weight_of bs =
    cond (eqb (byte_at bs 2) 0) Plain (cond (eqb (byte_at bs 2) 1) Shifted (cond (eqb (byte_at bs 2) 2) Next Cyclic))

-- "`02` index byte, coordinate"
abbrev pub is_coordinate : List ℕ → Bool
is_coordinate bs = starts bs 18 2

-- "`03` count byte (0 to 16), that many words"
abbrev pub is_words : List ℕ → Bool
is_words bs = starts bs (2 + 4 * byte_at bs 1) 3 && leb (byte_at bs 1) 16

-- "`04` closes"
abbrev pub is_close : List ℕ → Bool
is_close bs = starts bs 1 4

-- an `01` by its bytes
abbrev pub opening : List ℕ → Frame
opening bs =
    Open (record { side = side_of bs; weight = weight_of bs; n = byte_at bs 3; k = byte_at bs 4; scale = element_of bs 5 })

-- an `02`
abbrev pub coordinate : List ℕ → Frame
coordinate bs = Coordinate (byte_at bs 1) (element_of bs 2)

-- an `03`
abbrev pub feeding : List ℕ → Frame
feeding bs = Words (words_at (byte_at bs 1) bs 2)

-- the frame of bytes, or none
unfoldable pub frame_by : List ℕ → Option Frame
frame_by bs =
    cond (is_open bs) (Some (opening bs))
    (cond (is_coordinate bs) (Some (coordinate bs))
    (cond (is_words bs) (Some (feeding bs))
    (cond (is_close bs) (Some Close) None)))

-- the frame of a line, without its line feed
unfoldable pub frame_of : List ℕ → Option Frame
frame_of line = frame_by (bytes_of line)

-- one more than a frame's digits: of a longer line as many tell that it is no frame (`cut_alike` of proofs/Decoding.antt)
abbrev pub most_line : ℕ
most_line = 133
