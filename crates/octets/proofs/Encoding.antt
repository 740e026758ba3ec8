-- Words written as bytes one by one, from the first on: how that starts, steps and ends. Assumes nothing.
use mathlib.Core.Path.{◌≡◌, refl, sym, ap, subst, ◌∙◌}
use mathlib.Core.List.{List, [], ◌∷◌, ◌++◌, append_assoc, append-nil}
use Prim.Native.Nat.{ℕ, ◌+◌, ◌-◌, ◌*◌, ◌/◌, ◌%◌, ◌<◌, ◌^◌}
use native.Mathlib.Omega.{arith}
use native.Mathlib.Numerals.{add-one}
use lib.ListN.{length, get_or, take, drop, drop_of_length-le}
use lib.Seq.{take_at, drop-append-add, drop-drop, take-suc, take_all, length-take-le}
use borrow.Rule.Slice.PartMut.{put_mid, Post-is}
use Rattle.octets.specs.Octets.{octets}
use Rattle.octets.specs.Inner.{four_of}
use Rattle.octets.proofs.Octets.{octets_length, octets_append}

-- the bytes of the first i words, and then what was there
unfoldable pub front : List ℕ → List ℕ → ℕ → List ℕ
front ws bs i = octets (take i ws) ++ drop (4 * i) bs

pub start : (ws bs : List ℕ) → bs ≡ front ws bs 0
unfolding front octets
start ws bs = refl

module _ (ws b : List ℕ) (i : ℕ) (l : length b ≡ 4 * length ws) where
  pub turn : (bs ys : List ℕ) → bs ≡ front ws b i → i < length ws → get_or ws i 0 < 2 ^ 32
      → ys ≡ (get_or ws i 0 % 256 ∷ get_or ws i 0 / 256 % 256 ∷ get_or ws i 0 / 65536 % 256 ∷ get_or ws i 0 / 16777216 % 256 ∷ [])
      → put_mid (4 * i) (4 * i + 4 - 4 * i) bs ys ≡ front ws b (i + 1)
  unfolding front octets
  turn bs ys e h fits q =
      let w : ℕ = get_or ws i 0 in
      let xs : List ℕ = octets (take i ws) in
      let rest : List ℕ = drop (4 * i) b in
      let size : length xs ≡ 4 * i = octets_length (take i ws) ∙ ap (λ n. 4 * n) (length-take-le i ws (omega arith)) in
      let d : drop (4 * i + 4) (xs ++ rest) ≡ drop (4 * (i + 1)) b =
      subst (λ n. drop (n + 4) (xs ++ rest) ≡ drop 4 rest) size (drop-append-add xs rest 4) ∙ drop-drop 4 (4 * i) b
      ∙ (let m : 4 * i + 4 ≡ 4 * (i + 1) = omega arith in ap (λ n. drop n b) m) in
      let more : octets (take (i + 1) ws) ≡ xs ++ four_of w =
      ap octets (ap (λ n. take n ws) (add-one i) ∙ take-suc ws i 0 h) ∙ octets_append (take i ws) (w ∷ []) in
      let top : w / 16777216 % 256 ≡ w / 16777216 = omega arith in
      rw (Post-is (4 * i) (4 * i + 4) bs (omega arith), e, q, top, take_at xs rest (4 * i) size, d, more)
      (sym (append_assoc xs (four_of w) (drop (4 * (i + 1)) b)))

  pub finish : (bs : List ℕ) → bs ≡ front ws b i → i ≡ length ws → bs ≡ octets ws
  unfolding front
  finish bs e n =
      let none : drop (4 * i) b ≡ [] = drop_of_length-le b {i = 4 * i} (omega arith) in
      e ∙ rw (take_all i ws (omega arith), none) (append-nil (octets ws))
