-- The loop that prints words, at word i: the digits of those before i stand in front. Assumes nothing.
use mathlib.Core.Path.{◌≡◌, refl, ap, subst, ◌∙◌}
use Prim.Native.Nat.{ℕ, suc, ◌+◌, ◌*◌, ◌/◌, ◌%◌, ◌^◌, ◌≤◌, ◌<◌}
use native.Mathlib.Numerals.{add-one}
use native.Mathlib.Omega.{arith}
use mathlib.Core.List.{List, [], ◌∷◌, ◌++◌, append-nil}
use lib.ListN.{length, get_or, take, drop, drop_of_length-le}
use lib.Seq.{sets, sets-eq, length-sets, take_at, drop-append-add, drop-drop, take-suc, take_all, length-take-le}
use Rattle.frame.specs.Hex.{byte_digits, word_digits}
use Rattle.frame.proofs.Grammar.{digits_length}

add_two : (n : ℕ) → n + 2 ≡ suc (suc n)
add_two n = omega arith

add_four : (n : ℕ) → n + 4 ≡ suc (suc (suc (suc n)))
add_four n = omega arith

add_six : (n : ℕ) → n + 6 ≡ suc (suc (suc (suc (suc (suc n)))))
add_six n = omega arith

-- a word's four bytes, one after the other
pub bytes_in_turn : (at w : ℕ) {a b c d : ℕ} → w < 2 ^ 32 → a ≡ w / 256 ^ 3 % 256 → b ≡ w / 256 ^ 2 % 256 → c ≡ w / 256 ^ 1 % 256
    → d ≡ w % 256 → (t₀ t₁ t₂ t₃ t₄ : List ℕ)
    → t₁ ≡ sets t₀ at (byte_digits a)
    → t₂ ≡ sets t₁ (at + 2) (byte_digits b)
    → t₃ ≡ sets t₂ (at + 4) (byte_digits c)
    → t₄ ≡ sets t₃ (at + 6) (byte_digits d)
    → t₄ ≡ sets t₀ at (word_digits (w ∷ []))
unfolding word_digits
bytes_in_turn at w h a b c d t₀ t₁ t₂ t₃ t₄ e₁ e₂ e₃ e₄ =
    let first : w / 256 ^ 3 % 256 ≡ w / 16777216 = omega arith in
    rw (e₄, e₃, e₂, e₁, a, b, c, d, first, add_two, add_four, add_six)

append : (xs ys : List ℕ) → word_digits (xs ++ ys) ≡ word_digits xs ++ word_digits ys
unfolding word_digits
append [] ys = refl
append (x ∷ xs) ys = ap (λ (l : List ℕ). word_digits (x ∷ []) ++ l) (append xs ys)

-- the digits of the words before i, and then what was there
pub record Printed (ws was text : List ℕ) (i : ℕ) : Type 0 where
  pub same : length text ≡ length was
  pub front : text ≡ word_digits (take i ws) ++ drop (8 * i) was

pub start : (ws was : List ℕ) → Printed ws was was 0
unfolding word_digits
start ws was = record { same = refl; front = refl }

module _ {ws was : List ℕ} (fits : length was ≡ 8 * length ws) {text : List ℕ} {i : ℕ} (p : Printed ws was text i) where
  pub turn : {new : List ℕ} → i < length ws → new ≡ sets text (8 * i) (word_digits (get_or ws i 0 ∷ [])) → Printed ws was new (i + 1)
  turn {new} h e =
      let x : List ℕ = word_digits (get_or ws i 0 ∷ []) in
      let xs : List ℕ = word_digits (take i ws) in
      let n : length x ≡ 8 = digits_length (get_or ws i 0 ∷ []) in
      let l : length xs ≡ 8 * i = digits_length (take i ws) ∙ ap (λ (k : ℕ). 8 * k) (length-take-le i ws (omega arith)) in
      let room : 8 * i + length x ≤ length text = omega (arith, p.same) in
      let t : take (8 * i) (xs ++ drop (8 * i) was) ≡ xs = take_at xs (drop (8 * i) was) (8 * i) l in
      let d : drop (8 * i + 8) (xs ++ drop (8 * i) was) ≡ drop (8 * i + 8) was =
      subst (λ (k : ℕ). drop (k + 8) (xs ++ drop (8 * i) was) ≡ drop 8 (drop (8 * i) was)) l
      (drop-append-add xs (drop (8 * i) was) 8)
      ∙ drop-drop 8 (8 * i) was in
      let more : word_digits (take (i + 1) ws) ≡ xs ++ x =
      ap word_digits (ap (λ (k : ℕ). take k ws) (add-one i) ∙ take-suc ws i 0 h) ∙ append (take i ws) (get_or ws i 0 ∷ []) in
      let m : 8 * (i + 1) ≡ 8 * i + 8 = omega arith in
      record {
        same = ap length e ∙ length-sets text (8 * i) x ∙ p.same;
        front = e ∙ sets-eq x text (8 * i) room ∙ rw (n, p.front, t, d, more, m);
      }

  pub end : length ws ≤ i → text ≡ word_digits ws
  end h =
      let none : drop (8 * i) was ≡ [] = drop_of_length-le was {i = 8 * i} (omega arith) in
      p.front ∙ rw (none, take_all i ws h) (append-nil (word_digits ws))
