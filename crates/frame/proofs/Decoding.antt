-- The frame of a line: by the bytes that it spells, or none for its length or its characters; and that of a longer line as many bytes as
-- are held tell the same. Assumes nothing.
use mathlib.Core.Path.{◌≡◌, refl, sym, ap, ◌∙◌}
use mathlib.Core.Bool.{Bool, true, false, cond}
use Prim.Native.Nat.{◌/◌, ◌≤◌, ◌<◌, ℕ}
use native.Mathlib.Decide.{dec_le}
use native.Mathlib.Omega.{arith}
use mathlib.Core.List.{List, []}
use lib.ListN.{length, take}
use lib.Seq.{take_all, length-take-le}
use Rattle.std.specs.Prelude.{Option, Some, None}
use Rattle.frame.specs.declared.Frame.{Frame}
use Rattle.frame.specs.declared.Frame.TheVariants.{Open, Coordinate, Words, Close}
use Rattle.frame.specs.Hex.{is_hex, spelled, bytes_of, words_at}
use Rattle.frame.specs.Frame.{is_open, is_coordinate, is_words, is_close, opening, coordinate, feeding, frame_by, frame_of, most_line}
use Rattle.frame.proofs.Grammar.{spelled_length}
use Rattle.frame.proofs.FirstByte.{long_is_none}
use Rattle.frame.proofs.Scanning.{odd}

empty : frame_by [] ≡ None
unfolding frame_by
empty = refl

-- the four words of an `02`'s coordinate
abbrev pub FourWords : Option Frame → Type 0
FourWords (Some (Open opening)) = Unit
FourWords (Some (Coordinate index coordinate)) = length coordinate.c ≡ 4
FourWords (Some (Words words)) = Unit
FourWords (Some Close) = Unit
FourWords None = Unit

module _ (line : List ℕ) where
  pub four_words_lem : FourWords (frame_of line)
  unfolding frame_of frame_by words_at
  four_words_lem = let bs = bytes_of line in go bs (is_open bs) (is_coordinate bs) (is_words bs) (is_close bs)
    where
      go : (bs : List ℕ) (a b c d : Bool)
          → FourWords (cond a (Some (opening bs)) (cond b (Some (coordinate bs)) (cond c (Some (feeding bs)) (cond d (Some Close) None))))
      go bs true b c d = tt
      go bs false true c d = refl
      go bs false false true d = tt
      go bs false false false true = tt
      go bs false false false false = tt

  pub too_long : 66 < length line / 2 → None ≡ frame_of line
  unfolding frame_of bytes_of
  too_long h = sym (go (is_hex line))
    where
      go : (t : Bool) → frame_by (cond t (spelled line) []) ≡ None
      go true = long_is_none (spelled line) (omega (arith, spelled_length line))
      go false = empty

  pub not_hex : is_hex line ≡ false → None ≡ frame_of line
  unfolding frame_of bytes_of
  not_hex e = rw e (sym empty)

  pub spelt : is_hex line ≡ true → frame_by (spelled line) ≡ frame_of line
  unfolding frame_of bytes_of
  spelt e = rw e

-- a line of which only the first bytes are held is decoded as the whole: neither is a frame
pub cut_alike : (line : List ℕ) → frame_of (take most_line line) ≡ frame_of line
cut_alike line = go (dec_le (length line) most_line)
  where
    go : Dec (length line ≤ most_line) → frame_of (take most_line line) ≡ frame_of line
    go (yes h) = ap frame_of (take_all most_line line h)
    go (no h) =
        let n : length (take most_line line) ≡ most_line = length-take-le most_line line (omega arith) in
        sym (not_hex (take most_line line) (odd (take most_line line) (λ e. omega arith))) ∙ too_long line (omega arith)

pub ruleset decoded = (too_long, not_hex, spelt)
