-- The lines that are printed: an element's, and a refusal's. Assumes nothing.
use mathlib.Core.Path.{◌≡◌, refl, sym, ap, ◌∙◌}
use mathlib.Core.Bool.{Bool, true, false, cond}
use Prim.Native.Nat.{ℕ, zero, suc, ◌+◌, ◌*◌, ◌/◌, ◌^◌, ◌≤◌, ◌<◌}
use native.Mathlib.Omega.{arith}
use mathlib.Core.List.{List, [], ◌∷◌, ◌++◌, append-nil, append_assoc}
use lib.ListN.{length, take, drop, length-append, length-drop}
use lib.Pow.{pow_mono}
use lib.Seq.{length-take-le, take-take, take_at, drop_at}
use Rattle.std.proofs.lemmas.List.{drop-take}
use Rattle.frame.specs.Hex.{word_digits}
use Rattle.table.specs.declared.Refusal.{Refusal}
use Rattle.table.specs.declared.Refusal.TheVariants.{Split, NotPower, TooMany, Lengths, Unreduced, Constant, NoVertex, TooLong, Missing, Closed, Broken, NotFrame, Coordinates, NoPlace, Columns}
use Rattle.table.specs.Refusals.{number}
use Rattle.plan.specs.Plan.{width}
use Rattle.plan.proofs.OneColumn.{one_width}
use Rattle.frame.proofs.Grammar.{digits_length}
use Rattle.runs.specs.declared.Reader.{Reader}
use Rattle.runs.specs.Phases.{is_done}
use Rattle.runs.specs.Reader.{most_places, Ready}
use Rattle.program.specs.Printed.{line_feed, out_line, out_lines}
use Rattle.program.specs.Blocks.{most_text}
use Rattle.program.specs.Inner.{done_text}

-- an element's line has 33 bytes
element_length : (ws : List ℕ) → length ws ≡ 4 → length (out_line ws) ≡ 33
element_length ws h = omega (arith, length-append (word_digits ws) (line_feed ∷ []), digits_length ws)

-- and those of n elements 33 each
pub lines_length : (n : ℕ) (out : List ℕ) → 4 * n ≤ length out → length (out_lines n out) ≡ 33 * n
unfolding out_lines
lines_length zero out h = refl
lines_length (suc n) out h =
    let rest = lines_length n (drop 4 out) (omega (arith, length-drop 4 out)) in
    let one = element_length (take 4 out) (length-take-le 4 out (omega arith)) in
    omega (arith, length-append (out_line (take 4 out)) (out_lines n (drop 4 out)), rest, one)

-- those of n elements are told by n elements
pub front : (n : ℕ) (ws : List ℕ) → out_lines n (take (4 * n) ws) ≡ out_lines n ws
unfolding out_lines
front zero ws = refl
front (suc n) ws =
    let q : 4 * suc n ≡ 4 + 4 * n = omega arith in
    rw (q, take-take 4 (4 + 4 * n) ws (omega arith), drop-take 4 (4 * n) ws, front n (drop 4 ws)) refl

-- an element in front
first : {ws : List ℕ} (element later : List ℕ) → ws ≡ element ++ later → length element ≡ 4
    → out_lines (length ws / 4) ws ≡ out_line element ++ out_lines (length later / 4) later
unfolding out_lines
first {ws} element later e h =
    let n : length (element ++ later) / 4 ≡ suc (length later / 4) = omega (arith, length-append element later) in
    rw (e, n, take_at element later 4 h, drop_at element later 4 h) refl

-- the lines that are there, and those of the elements that are left
pub record Left (was out : List ℕ) (places : ℕ) (text rest : List ℕ) (size : ℕ) : Type 0 where
  pub four : size ≡ 4
  pub lines : text ++ out_lines (length rest / 4) rest ≡ was ++ out_lines places out

module _ {was out : List ℕ} {places : ℕ} (there : 4 * places ≤ length out) where
  pub none_yet : {rest : List ℕ} {size : ℕ} → rest ≡ take (4 * places) out → size ≡ 4 → Left was out places was rest size
  none_yet {rest} e f =
      let n : length (take (4 * places) out) ≡ 4 * places = length-take-le (4 * places) out there in
      let q : 4 * places / 4 ≡ places = omega arith in
      record { four = f; lines = rw (e, n, q, front places out) refl }

  module _ {text rest : List ℕ} {size : ℕ} (l : Left was out places text rest size) (element later : List ℕ) {line : List ℕ}
      (e : rest ≡ element ++ later) (h : length element ≡ size) (q : line ≡ out_line element) where
    -- an element's line has room behind those before it
    pub line_fits : length was + 33 * places ≤ most_text → length text + length line ≤ most_text
    line_fits room =
        let all : length text + length (out_lines (length rest / 4) rest) ≡ length was + length (out_lines places out) =
        simp length-append at (ap length l.lines) in
        let some : 4 * (length rest / 4) ≤ length rest = omega arith in
        let n : 4 ≤ length rest = omega (arith, ap length e, length-append element later, h, l.four) in
        omega (arith, ap length q, element_length element (h ∙ l.four), all, lines_length _ rest some, lines_length places out there)

    -- one more
    pub line_more : {new : List ℕ} {still : ℕ} → new ≡ text ++ line → still ≡ size → Left was out places new later still
    line_more n k =
        record {
          four = k ∙ l.four;
          lines = rw (n, q, append_assoc, sym (first element later e (h ∙ l.four))) l.lines;
        }

  pub all_there : {text rest : List ℕ} {size : ℕ} → Left was out places text rest size → length rest < size → text ≡ was ++ out_lines places out
  unfolding out_lines
  all_there {text} {rest} l h =
      let n : length rest / 4 ≡ 0 = omega (arith, l.four) in
      sym (append-nil text) ∙ ap (λ k. text ++ out_lines k rest) (sym n) ∙ l.lines

-- after a line: at `04` the lines of out, else nothing
module _ {r : Reader} {out : List ℕ} (ready : Ready r out) where
  pub places_fit : 4 * width r.session.plan ≤ length out
  places_fit = omega (arith, ready.room, one_width r.session.plan ready.one_column, pow_mono ready.few)

  pub done_length : length (done_text r out) ≤ 33 * 2 ^ most_places
  done_length = go (is_done r.phase)
    where
      go : (t : Bool) → length (cond t (out_lines (width r.session.plan) out) []) ≤ 33 * 2 ^ most_places
      go true = omega (arith, lines_length (width r.session.plan) out places_fit, ready.room, places_fit)
      go false = omega arith

  pub done_fits : is_done r.phase ≡ true → (text : List ℕ) → length text + length (done_text r out) ≤ most_text
      → length text + 33 * width r.session.plan ≤ most_text
  done_fits e text h =
      let h' : length text + length (out_lines (width r.session.plan) out) ≤ most_text = rw e at h in
      omega (arith, lines_length (width r.session.plan) out places_fit)

-- a refusal's number fits a byte
pub number_small : (r : Refusal) → number r < 256
number_small Split = omega arith
number_small NotPower = omega arith
number_small TooMany = omega arith
number_small Lengths = omega arith
number_small Unreduced = omega arith
number_small Constant = omega arith
number_small NoVertex = omega arith
number_small TooLong = omega arith
number_small Missing = omega arith
number_small Closed = omega arith
number_small Broken = omega arith
number_small NotFrame = omega arith
number_small Coordinates = omega arith
number_small NoPlace = omega arith
number_small Columns = omega arith
