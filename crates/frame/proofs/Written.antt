-- The frames as they are written read back as what they were. Assumes nothing.
use mathlib.Core.Path.{◌≡◌, refl, sym, ap, ◌∙◌}
use mathlib.Core.Bool.{true}
use Prim.Native.Nat.{ℕ, ◌+◌, ◌<◌, ◌^◌}
use native.Mathlib.Omega.{arith}
use mathlib.Core.List.{List, [], ◌∷◌, ◌++◌}
use lib.ListN.{length, get_or}
use borrow.Author.Tests.{ltb-true}
use Rattle.field.specs.declared.Element.{Element}
use Rattle.frame.specs.Hex.{is_hex, spelled, bytes_of, words_at, byte_digits, word_digits}
use Rattle.multilinear.specs.Bytes.{side_byte, weight_byte}
use Rattle.frame.specs.Frame.{element_of, frame_by, frame_of}
use Rattle.frame.specs.Written.{Whole, Written}
use Rattle.frame.proofs.FirstByte.{side_small, weight_small, opened, coordinated, worded}
use Rattle.frame.proofs.ReadsBack.{byte_hex, byte_spelled, printed_is_hex, printed_spells, octets_of, octets_length, octets_back, past_words}

-- the digits of bytes
unfoldable digits_of : List ℕ → List ℕ
digits_of [] = []
digits_of (b ∷ bs) = byte_digits b ++ digits_of bs

-- each fits a byte
unfoldable Small : List ℕ → Type 0
Small [] = Unit {0}
Small (b ∷ bs) = (b < 256) × Small bs

-- a line of bytes and then words
module _ (ws : List ℕ) (fit : (i : ℕ) → get_or ws i 0 < 2 ^ 32) where
  line_hex : (bs : List ℕ) → is_hex (digits_of bs ++ word_digits ws) ≡ true
  unfolding digits_of
  line_hex [] = printed_is_hex ws
  line_hex (b ∷ bs) = byte_hex b (digits_of bs ++ word_digits ws) ∙ line_hex bs

  line_spelled : (bs : List ℕ) → Small bs → spelled (digits_of bs ++ word_digits ws) ≡ bs ++ octets_of ws
  unfolding digits_of Small
  line_spelled [] small = printed_spells ws fit
  line_spelled (b ∷ bs) small =
      byte_spelled b (digits_of bs ++ word_digits ws) small.0
      ∙ ap (λ (l : List ℕ). b ∷ l) (line_spelled bs small.1)

  -- reads as the bytes of both
  line_bytes : (bs : List ℕ) → Small bs → bytes_of (digits_of bs ++ word_digits ws) ≡ bs ++ octets_of ws
  unfolding bytes_of
  line_bytes bs small = rw (line_hex bs) (line_spelled bs small)

-- an element's bytes
element_bytes : (e : Element) → Whole e → length (octets_of e.c) ≡ 16
element_bytes e h = octets_length e.c ∙ rw h.four

-- an element behind bytes
element_reads : (bs : List ℕ) (e : Element) → Whole e → element_of (bs ++ octets_of e.c) (length bs + 0) ≡ e
element_reads bs e h =
    let back : words_at 4 (octets_of e.c) 0 ≡ e.c = rw h.four at (octets_back e.c h.fit) in
    ap (λ (l : List ℕ). record { c = l }) (past_words bs (octets_of e.c) 4 0 ∙ back)

pub written : Written
unfolding digits_of Small frame_of frame_by bytes_of is_hex spelled
written = record {
  open_back = λ side weight n k scale hn hk h.
      let bytes : List ℕ = 1 ∷ side_byte side ∷ weight_byte weight ∷ n ∷ k ∷ [] in
      let s = ltb-true (side_byte side) 2 (side_small side) in
      let w = ltb-true (weight_byte weight) 4 (weight_small weight) in
      let small : Small bytes = (omega arith, (omega arith, (omega arith, (hn, (hk, tt))))) in
      ap frame_by (line_bytes scale.c h.fit bytes small)
      ∙ sym (opened (bytes ++ octets_of scale.c) refl (omega (arith, element_bytes scale h)) refl refl (sym (element_reads bytes scale h)));
  coordinate_back = λ index coordinate hi h.
      let bytes : List ℕ = 2 ∷ index ∷ [] in
      let small : Small bytes = (omega arith, (hi, tt)) in
      ap frame_by (line_bytes coordinate.c h.fit bytes small)
      ∙ sym
      (coordinated (bytes ++ octets_of coordinate.c) refl (omega (arith, element_bytes coordinate h))
      (sym (element_reads bytes coordinate h)));
  words_back = λ words few fit.
      let bytes : List ℕ = 3 ∷ length words ∷ [] in
      let small : Small bytes = (omega arith, (omega arith, tt)) in
      ap frame_by (line_bytes words fit bytes small)
      ∙ sym (worded (bytes ++ octets_of words) refl (omega (arith, octets_length words)) few
      (sym (past_words bytes (octets_of words) (length words) 0 ∙ octets_back words fit)));
  close_back = refl;
}
