-- Rows of words read from a table one by one, each into its part of a block: how that starts, steps and ends. Assumes nothing.
use mathlib.Core.Path.{◌≡◌, sym, ap, ◌∙◌}
use Prim.Native.Nat.{ℕ, ◌+◌, ◌-◌, ◌*◌, ◌/◌, ◌%◌, ◌≤◌, ◌<◌}
use native.Mathlib.Nat.{zero-mul, add-zero, suc-mul, mul-le-mul_right, div-mul-le_self, mul-add-div_right, mul-add-mod_self_right, div-eq_of_lt, mod-eq_of_lt, div-add-mod'}
use native.Mathlib.Omega.{arith}
use mathlib.Core.List.{List}
use lib.ListN.{length, get_or, take, drop}
use borrow.Rule.Slice.PartMut.{mid_of, put_mid}
use Rattle.byte_fold.specs.declared.Rows.{Rows}
use Rattle.byte_fold.specs.Inner.{first_words, row_word}
use Rattle.byte_fold.proofs.Words.{first_length, first_part, first_append}
use Rattle.piece.proofs.Fronts.{Front, front_start, front_lent, front_turn, front_end}

-- row r is all in a block of `count` words
pub row_within : (places count r : ℕ) → r < count / places → r * places + places ≤ count
row_within places count r h =
    let le : (r + 1) * places ≤ count / places * places = mul-le-mul_right {m = r + 1} {n = count / places} places (omega arith) in
    omega (arith, suc-mul r places, div-mul-le_self count places)

-- the first r rows stand in a block
pub record Read (rows : Rows) (ws : List ℕ) (r : ℕ) (was block : List ℕ) : Type 0 where
  pub within : r ≤ length was / rows.places
  pub front : Front (r * rows.places) (first_words (r * rows.places) (row_word rows ws)) was block

module _ (rows : Rows) (ws : List ℕ) (some : 0 < rows.places) where
  abbrev places : ℕ
  places = rows.places

  abbrev inner : ℕ
  inner = rows.inner

  abbrev start : ℕ
  start = rows.start

  pub begins : (block : List ℕ) → Read rows ws 0 block block
  unfolding first_words
  begins block = record { within = omega arith; front = rw (zero-mul places) (front_start block) }

  word_is : (r j : ℕ) → j < places → get_or ws (start + r * inner + j) 0 ≡ row_word rows ws (r * places + j)
  word_is r j h =
      let d : (r * places + j) / places ≡ r = mul-add-div_right some r j ∙ ap (λ m. r + m) (div-eq_of_lt h) ∙ add-zero r in
      let m : (r * places + j) % places ≡ j = mul-add-mod_self_right r places j ∙ mod-eq_of_lt h in
      rw (d, m)

  module _ {r : ℕ} {was block : List ℕ} (d : Read rows ws r was block) (more : r < length was / places)
      (there : start + r * inner + places ≤ length ws) where
    pub lent : length (mid_of (r * places) (r * places + places - r * places) block) ≡ places
    lent = front_lent d.front places (row_within places (length was) r more)

    pub turn : {ys : List ℕ} {m : ℕ} → ys ≡ take m (drop (start + r * inner) ws) → m ≡ places
        → Read rows ws (r + 1) was (put_mid (r * places) (r * places + places - r * places) block ys)
    turn {ys} e l =
        let q : (r + 1) * places ≡ r * places + places = omega (arith, suc-mul r places) in
        let row : ys ≡ first_words places (λ j. row_word rows ws (r * places + j)) =
        e ∙ ap (λ m. take m (drop (start + r * inner) ws)) l ∙ first_part (start + r * inner) places _ ws there (word_is r) in
        record {
          within = omega arith;
          front = rw (q, first_append (r * places) places (row_word rows ws), ← row)
              (front_turn d.front places (row_within places (length was) r more) ys (ap length row ∙ first_length places _));
        }

  pub ends : {r : ℕ} {was block : List ℕ} → Read rows ws r was block → length was / places ≤ r → length was % places ≡ 0
      → block ≡ first_words (length was) (row_word rows ws)
  ends {r} {was} d h whole =
      let q : r ≡ length was / places = omega (arith, d.within) in
      let all : r * places ≡ length was = ap (λ m. m * places) q ∙ (omega (arith, div-add-mod' (length was) places)) in
      rw (← all) (front_end d.front (sym all))
