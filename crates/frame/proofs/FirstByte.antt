-- The frame of bytes by the first of them; and how long the bytes of a frame are. Assumes nothing.
use mathlib.Core.Path.{◌≡◌, refl, ◌∙◌}
use mathlib.Core.Bool.{Bool, true, false, cond, ◌&&◌}
use Prim.Native.Nat.{ℕ, ◌+◌, ◌*◌, ◌≤◌, ◌<◌}
use native.Mathlib.Omega.{arith}
use mathlib.Core.List.{List}
use lib.Dec.{eqb, leb, ltb}
use lib.ListN.{length}
use Rattle.std.proofs.lemmas.Bool.{eqb-true, leb-true, eq-eqb, ne_eqb, le-ltb, le-leb, lt-leb, and_parts}
use Rattle.std.proofs.Math.Bool.{and-false}
use Rattle.std.specs.Prelude.{Some, None}
use Rattle.multilinear.specs.declared.Side.{Side}
use Rattle.multilinear.specs.declared.Side.TheVariants.{Prefix, Suffix}
use Rattle.multilinear.specs.declared.Weight.{Weight}
use Rattle.multilinear.specs.declared.Weight.TheVariants.{Plain, Shifted, Next, Cyclic}
use Rattle.multilinear.specs.Bytes.{side_byte, weight_byte}
use Rattle.field.specs.declared.Element.{Element}
use Rattle.frame.specs.declared.Frame.TheVariants.{Open, Coordinate, Words, Close}
use Rattle.frame.specs.Hex.{words_at}
use Rattle.frame.specs.Frame.{byte_at, element_of, starts, is_open, is_coordinate, is_words, is_close, opening, coordinate, feeding, frame_by}

-- the side and the weight of their bytes
pub side_reads : (side : Side) → cond (eqb (side_byte side) 0) Prefix Suffix ≡ side
side_reads Prefix = refl
side_reads Suffix = refl

pub side_small : (side : Side) → ltb (side_byte side) 2 ≡ true
side_small Prefix = refl
side_small Suffix = refl

pub weight_reads : (weight : Weight)
    → cond (eqb (weight_byte weight) 0) Plain
    (cond (eqb (weight_byte weight) 1) Shifted (cond (eqb (weight_byte weight) 2) Next Cyclic))
    ≡ weight
weight_reads Plain = refl
weight_reads Shifted = refl
weight_reads Next = refl
weight_reads Cyclic = refl

pub weight_small : (weight : Weight) → ltb (weight_byte weight) 4 ≡ true
weight_small Plain = refl
weight_small Shifted = refl
weight_small Next = refl
weight_small Cyclic = refl

module _ (bs : List ℕ) where
  -- by its first byte
  by_open : byte_at bs 0 ≡ 1 → cond (is_open bs) (Some (opening bs)) None ≡ frame_by bs
  unfolding frame_by
  by_open e = rw (e, and-false (eqb (length bs) 18), and-false (eqb (length bs) (2 + 4 * byte_at bs 1)), and-false (eqb (length bs) 1))

  by_coordinate : byte_at bs 0 ≡ 2 → cond (is_coordinate bs) (Some (coordinate bs)) None ≡ frame_by bs
  unfolding frame_by
  by_coordinate e =
      rw (e, and-false (eqb (length bs) 21), and-false (eqb (length bs) (2 + 4 * byte_at bs 1)), and-false (eqb (length bs) 1))

  by_words : byte_at bs 0 ≡ 3 → cond (is_words bs) (Some (feeding bs)) None ≡ frame_by bs
  unfolding frame_by
  by_words e = rw (e, and-false (eqb (length bs) 21), and-false (eqb (length bs) 18), and-false (eqb (length bs) 1))

  by_close : byte_at bs 0 ≡ 4 → cond (is_close bs) (Some Close) None ≡ frame_by bs
  unfolding frame_by
  by_close e = rw (e, and-false (eqb (length bs) 21), and-false (eqb (length bs) 18), and-false (eqb (length bs) (2 + 4 * byte_at bs 1)))

  -- bytes of another length are none
  pub other_open : byte_at bs 0 ≡ 1 → (length bs ≡ 21 → ⊥) → None ≡ frame_by bs
  other_open e l = (rw (ne_eqb (length bs) 21 l) refl) ∙ by_open e

  pub other_coordinate : byte_at bs 0 ≡ 2 → (length bs ≡ 18 → ⊥) → None ≡ frame_by bs
  other_coordinate e l = (rw (ne_eqb (length bs) 18 l) refl) ∙ by_coordinate e

  pub other_words : byte_at bs 0 ≡ 3 → (length bs ≡ 2 + 4 * byte_at bs 1 → ⊥) → None ≡ frame_by bs
  other_words e l = (rw (ne_eqb (length bs) (2 + 4 * byte_at bs 1) l) refl) ∙ by_words e

  pub other_close : byte_at bs 0 ≡ 4 → (length bs ≡ 1 → ⊥) → None ≡ frame_by bs
  other_close e l = (rw (ne_eqb (length bs) 1 l) refl) ∙ by_close e

  -- so are those of another side, weight or count
  pub no_side : byte_at bs 0 ≡ 1 → 1 < byte_at bs 1 → None ≡ frame_by bs
  no_side e h = (rw (le-ltb (byte_at bs 1) 2 h, and-false (starts bs 21 1)) refl) ∙ by_open e

  pub no_weight : byte_at bs 0 ≡ 1 → 3 < byte_at bs 2 → None ≡ frame_by bs
  no_weight e h = (rw (le-ltb (byte_at bs 2) 4 h, and-false (starts bs 21 1 && ltb (byte_at bs 1) 2)) refl) ∙ by_open e

  pub too_many : byte_at bs 0 ≡ 3 → 16 < byte_at bs 1 → None ≡ frame_by bs
  too_many e h = (rw (lt-leb (byte_at bs 1) 16 h, and-false (starts bs (2 + 4 * byte_at bs 1) 3)) refl) ∙ by_words e

  -- and the others are frames
  pub opened : byte_at bs 0 ≡ 1 → length bs ≡ 21 → {side : Side} → side_byte side ≡ byte_at bs 1 → {weight : Weight}
      → weight_byte weight ≡ byte_at bs 2 → {scale : Element} → scale ≡ element_of bs 5
      → Some (Open (record { side = side; weight = weight; n = byte_at bs 3; k = byte_at bs 4; scale = scale })) ≡ frame_by bs
  opened e l {side} s {weight} w {scale} c =
      rw (e, l, ← s, ← w, side_small side, weight_small weight, side_reads side, weight_reads weight, c) refl ∙ by_open e

  pub coordinated : byte_at bs 0 ≡ 2 → length bs ≡ 18 → {x : Element} → x ≡ element_of bs 2
      → Some (Coordinate (byte_at bs 1) x) ≡ frame_by bs
  coordinated e l c = rw (e, l, c) refl ∙ by_coordinate e

  pub worded : byte_at bs 0 ≡ 3 → length bs ≡ 2 + 4 * byte_at bs 1 → byte_at bs 1 ≤ 16 → {ws : List ℕ} → ws ≡ words_at (byte_at bs 1) bs 2
      → Some (Words ws) ≡ frame_by bs
  worded e l few w =
      rw (e, eq-eqb (length bs) (2 + 4 * byte_at bs 1) l, le-leb (byte_at bs 1) 16 few, w) refl ∙ by_words e

  pub closed : byte_at bs 0 ≡ 4 → length bs ≡ 1 → Some Close ≡ frame_by bs
  closed e l = rw (e, l) refl ∙ by_close e

  -- no frame has another first byte
  pub other_first : (byte_at bs 0 ≡ 1 → ⊥) → (byte_at bs 0 ≡ 2 → ⊥) → (byte_at bs 0 ≡ 3 → ⊥) → (byte_at bs 0 ≡ 4 → ⊥) → None ≡ frame_by bs
  unfolding frame_by
  other_first a b c d =
      rw (
        ne_eqb (byte_at bs 0) 1 a,
        ne_eqb (byte_at bs 0) 2 b,
        ne_eqb (byte_at bs 0) 3 c,
        ne_eqb (byte_at bs 0) 4 d,
        and-false (eqb (length bs) 21),
        and-false (eqb (length bs) 18),
        and-false (eqb (length bs) (2 + 4 * byte_at bs 1)),
        and-false (eqb (length bs) 1),
      )

  -- no frame has more than 66 bytes
  pub long_is_none : 66 < length bs → frame_by bs ≡ None
  unfolding frame_by
  long_is_none h = go (is_words bs) refl
    where
      go : (t : Bool) → is_words bs ≡ t → frame_by bs ≡ None
      go true e =
          let both = and_parts (starts bs (2 + 4 * byte_at bs 1) 3) (leb (byte_at bs 1) 16) e in
          let size = eqb-true (length bs) (2 + 4 * byte_at bs 1) (and_parts _ _ both.0).0 in
          let few = leb-true (byte_at bs 1) 16 both.1 in
          let no : ⊥ = omega arith in
          absurd no
      go false e =
          let a : length bs ≡ 21 → ⊥ = λ q. omega arith in
          let b : length bs ≡ 18 → ⊥ = λ q. omega arith in
          let c : length bs ≡ 1 → ⊥ = λ q. omega arith in
          rw (ne_eqb (length bs) 21 a, ne_eqb (length bs) 18 b, e, ne_eqb (length bs) 1 c)

pub ruleset at_open = (other_open, no_side, no_weight, opened)

pub ruleset at_coordinate = (other_coordinate, coordinated)

pub ruleset at_words = (other_words, too_many, worded)

pub ruleset at_close = (other_close, closed)
