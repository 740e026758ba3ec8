-- A line that has ended, by the step's answer: what the program holds after it, its text, and room for what may come. Assumes nothing.
use mathlib.Core.Path.{◌≡◌, refl, sym, ap, ◌∙◌}
use mathlib.Core.Bool.{Bool, true, false, cond}
use Prim.Native.Nat.{ℕ, zero, suc, ◌+◌, ◌*◌, ◌^◌, ◌≤◌}
use native.Mathlib.Omega.{arith}
use mathlib.Core.List.{List, [], ◌++◌}
use lib.ListN.{length, length-append}
use Rattle.std.specs.Prelude.{Option, Some, None, Result, Ok, Err}
use Rattle.table.specs.declared.Refusal.{Refusal}
use Rattle.table.specs.Refusals.{number, answer, verdict}
use Rattle.table.proofs.Answers.{number_some}
use Rattle.frame.specs.declared.Frame.{Frame}
use Rattle.frame.specs.declared.Frame.TheVariants.{Open, Coordinate, Words, Close}
use Rattle.frame.specs.Frame.{frame_of}
use Rattle.runs.specs.declared.Reader.{Reader}
use Rattle.runs.specs.Phases.{is_done}
use Rattle.runs.specs.Reader.{most_places, line_answer, taken, turned, Ready}
use Rattle.runs.specs.State.{State, step}
use Rattle.frames.specs.After.{after_frame}
use Rattle.program.specs.Printed.{unless_refused, refusal_line}
use Rattle.program.specs.Blocks.{most_text, Feeding, Fed, is_refused, close_text}
use Rattle.program.specs.Inside.{Goes}
use Rattle.program.specs.Inner.{done_text, ended}
use Rattle.program.proofs.Texts.{done_length}

-- a refusal's number is none of an accepted line
refused : (n : ℕ) → (0 ≡ n → ⊥) → (text : List ℕ) → (is_refused n ≡ true) × (unless_refused n text ≡ refusal_line n)
unfolding is_refused unless_refused
refused zero h text = absurd (h refl)
refused (suc n) h text = (refl, refl)

-- after `04` every line is 10
done_is_ten : (r : Reader) (x : Option Frame) → is_done r.phase ≡ true → line_answer r x ≡ 10
unfolding line_answer verdict
done_is_ten r x e = rw e

silent : (r : Reader) → is_done r.phase ≡ false → (out : List ℕ) → [] ≡ done_text r out
silent r e out = rw e

-- an accepted line: what it leaves and prints
module _ (r : Reader) (x : Option Frame) (accepted : line_answer r x ≡ 0) where
  pub goes_on : is_done r.phase ≡ false
  goes_on = go (is_done r.phase) refl
    where
      go : (t : Bool) → is_done r.phase ≡ t → t ≡ false
      go false e = refl
      go true e = let no : ◌≡◌ {A = ℕ} 10 0 = sym (done_is_ten r x e) ∙ accepted in absurd (omega arith)

  -- out is printed at `04`, and then only
  by_frame : (y : Option Frame) (out last : List ℕ)
      → close_text y (record { reader = taken r y; out = out; last = last }) ≡ done_text (taken r y) out
  by_frame (Some (Open o)) out last = refl
  by_frame (Some (Coordinate i e)) out last = silent (taken r (Some (Coordinate i e))) goes_on out
  by_frame (Some (Words ws)) out last = refl
  by_frame (Some Close) out last = refl
  by_frame None out last = silent r goes_on out

  pub at_close : (out last : List ℕ)
      → close_text x (record { reader = (turned r x).1; out = out; last = last }) ≡ done_text (turned r x).1 out
  unfolding turned
  at_close out last = rw accepted (by_frame x out last)

-- the held line's step
pub record Stepped (s : Fed) (result : Result (Unit {0}) Refusal) (now : State) : Type 0 where
  pub number_is : answer result ≡ line_answer s.feeding.state.reader (frame_of s.feeding.held)
  pub steps : now ≡ step s.feeding.held s.feeding.state
  pub ready : Ready now.reader now.out

pub stepped : (s : Fed) (result : Result (Unit {0}) Refusal) {x : Option Frame} {line : List ℕ} {now : State} → x ≡ frame_of line
    → line ≡ s.feeding.held → answer result ≡ line_answer s.feeding.state.reader x → now ≡ after_frame x s.feeding.state
    → Ready now.reader now.out → Stepped s result now
stepped s result d l n t r =
    let e = d ∙ ap frame_of l in
    record {
      number_is = n ∙ ap (line_answer s.feeding.state.reader) e;
      steps = t ∙ ap (λ y. after_frame y s.feeding.state) e;
      ready = r;
    }

module _ {s : Fed} (goes : Goes s) (on : s.feeding.stopped ≡ false) where
  abbrev f : Feeding
  f = s.feeding

  abbrev r : Reader
  r = f.state.reader

  abbrev x : Option Frame
  x = frame_of f.held

  -- the state after it
  abbrev ahead : State
  ahead = step f.held f.state

  -- text has room for what the lines may still print
  room_left : length s.text + cond (is_done r.phase) 5 most_text ≤ most_text
  room_left = let h : length s.text + cond false 0 (cond (is_done r.phase) 5 most_text) ≤ most_text = rw on at goes.room in h

  -- the state after it, whether it goes on, and the text
  abbrev after : State → Bool → List ℕ → Fed
  after now stopped text = record { feeding = record { state = now; stopped = stopped; held = [] }; text = text }

  left_as : {now : State} → now ≡ ahead → (stopped : Bool) → stopped ≡ is_refused (line_answer r x) → (text : List ℕ)
      → text ≡ s.text ++ unless_refused (line_answer r x) (close_text x ahead) → after now stopped text ≡ ended s
  left_as q stopped e text t = rw (q, e, t) refl

  module _ (refusal : Refusal) {now : State} {text : List ℕ} (st : Stepped s (Err refusal) now)
      (put : text ≡ s.text ++ refusal_line (number refusal)) where
    no : (is_refused (line_answer r x) ≡ true)
        × (unless_refused (line_answer r x) (close_text x ahead) ≡ refusal_line (line_answer r x))
    no = refused (line_answer r x) (λ z. number_some refusal (z ∙ sym st.number_is)) (close_text x ahead)

    pub line_refused : after now true text ≡ ended s
    line_refused =
        left_as st.steps true (sym no.0) text
        (put ∙ ap (λ t. s.text ++ t) (ap refusal_line st.number_is ∙ sym no.1))

  module _ {now : State} (st : Stepped s (Ok tt) now) where
    accepted : line_answer r x ≡ 0
    accepted = sym st.number_is

    -- it finds no text before it
    none_before : length s.text ≡ 0
    none_before = let h : length s.text + most_text ≤ most_text = rw (goes_on r x accepted) at room_left in omega arith

    few_lines : length (done_text now.reader now.out) + 5 ≤ most_text
    few_lines = let q : ◌≡◌ {A = ℕ} (33 * 2 ^ most_places) 33792 = refl in omega (arith, done_length st.ready)

    pub out_fits : length s.text + length (done_text now.reader now.out) ≤ most_text
    out_fits = omega (arith, none_before, few_lines)

    fits_on : length (done_text now.reader now.out) + cond (is_done now.reader.phase) 5 most_text ≤ most_text
    fits_on = go (is_done now.reader.phase) refl
      where
        go : (d : Bool) → is_done now.reader.phase ≡ d → length (done_text now.reader now.out) + cond d 5 most_text ≤ most_text
        go true e = few_lines
        go false e = let q : length (done_text now.reader now.out) ≡ 0 = ap length (sym (silent now.reader e now.out)) in omega arith

    printed_as : done_text now.reader now.out ≡ unless_refused (line_answer r x) (close_text x ahead)
    unfolding unless_refused
    printed_as = rw (accepted, st.steps) (sym (at_close r x accepted ahead.out ahead.last))

    module _ {text : List ℕ} (put : text ≡ s.text ++ done_text now.reader now.out) where
      pub line_accepted : after now false text ≡ ended s
      unfolding is_refused
      line_accepted = left_as st.steps false (rw accepted refl) text (put ∙ ap (λ t. s.text ++ t) printed_as)

      pub accepted_goes : Goes (after now false text)
      accepted_goes =
          let size = length-append s.text (done_text now.reader now.out) in
          let room : length text + cond (is_done now.reader.phase) 5 most_text ≤ most_text =
          rw put (omega (arith, none_before, fits_on, size)) in
          record { few = omega arith; room = room }
