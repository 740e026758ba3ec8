-- The loop that fills bytes with what a line spells, at byte i: those before i are there. Assumes nothing.
use mathlib.Core.Path.{◌≡◌, sym, ◌∙◌}
use mathlib.Core.Bool.{true}
use mathlib.Core.Logic.{◌≢◌}
use Prim.Native.Nat.{ℕ, ◌+◌, ◌*◌, ◌≤◌, ◌<◌}
use native.Mathlib.Omega.{arith}
use mathlib.Core.List.{List}
use lib.ListN.{length, get_or, set, length-set}
use lib.Seq.{get_or-set_same, get_or-set_other, ext_get_or}
use borrow.Author.Count.{below_more}
use Rattle.frame.specs.Hex.{is_digit, digit_of, spelled}
use Rattle.frame.specs.Inner.{Spells}
use Rattle.frame.proofs.Grammar.{spelled_length, at_spelled, hex_at}

-- the bytes before i are what the line spells
pub record Spelt (line was bytes : List ℕ) (i : ℕ) : Type 0 where
  pub same : length bytes ≡ length was
  pub done : (k : ℕ) → k < i → get_or bytes k 0 ≡ get_or (spelled line) k 0

module _ {line was : List ℕ} (fits : Spells line was) where
  -- the two digits of byte i stand in the line
  pub inside : {i : ℕ} → i < length was → 2 * i + 1 < length line
  inside h = omega (arith, fits.count)

  pub high : {i : ℕ} → i < length was → is_digit (get_or line (2 * i) 0) ≡ true
  high {i} h = hex_at line fits.hex (2 * i) (omega (arith, inside h))

  pub low : {i : ℕ} → i < length was → is_digit (get_or line (2 * i + 1) 0) ≡ true
  low {i} h = hex_at line fits.hex (2 * i + 1) (inside h)

  module _ {bytes : List ℕ} {i : ℕ} (s : Spelt line was bytes i) where
    pub turn : {a b : ℕ} → i < length was → a ≡ digit_of (get_or line (2 * i) 0) → b ≡ digit_of (get_or line (2 * i + 1) 0)
        → Spelt line was (set bytes i (16 * a + b)) (i + 1)
    turn {a} {b} h ea eb =
        let here : i < length bytes = omega (arith, s.same) in
        let new : 16 * a + b ≡ get_or (spelled line) i 0 = rw (ea, eb) (sym (at_spelled line i (inside h))) in
        record {
          same = length-set bytes i (16 * a + b) ∙ s.same;
          done =
              below_more _ i
              (λ k l. let ne : k ≢ i = omega arith in get_or-set_other bytes i k (16 * a + b) 0 ne ∙ s.done k l)
              (get_or-set_same bytes i (16 * a + b) 0 here ∙ new);
        }

    pub end : length was ≤ i → bytes ≡ spelled line
    end h =
        ext_get_or 0 bytes (spelled line) (s.same ∙ fits.count ∙ sym (spelled_length line))
        (λ k l. s.done k (omega (arith, s.same)))
