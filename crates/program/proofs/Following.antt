-- One line by its frame and its number: what it leaves and prints; and an `03` that there is room for, beside a `04`. Assumes nothing.
use mathlib.Core.Path.{◌≡◌, refl, ap, ◌∙◌}
use mathlib.Core.Bool.{false}
use Prim.Native.Nat.{ℕ, suc}
use mathlib.Core.List.{List, [], ◌∷◌, ◌++◌}
use borrow.Author.Tests.{le-ltb}
use Rattle.std.specs.Prelude.{Option, Some}
use Rattle.table.specs.Refusals.{verdict, leaves}
use Rattle.frame.specs.declared.Frame.{Frame}
use Rattle.frame.specs.declared.Frame.TheVariants.{Words, Close}
use Rattle.frame.specs.Frame.{frame_of}
use Rattle.runs.specs.declared.Phase.{Phase}
use Rattle.runs.specs.declared.Phase.TheVariants as phase
use Rattle.runs.specs.Phases.{in_place}
use Rattle.runs.specs.declared.Reader.{Reader}
use Rattle.runs.specs.Reader.{missing, line_answer, counted, done, taken, turned}
use Rattle.runs.specs.Runs.{words_by}
use Rattle.runs.proofs.Accepted.{Feeds, line_clear}
use Rattle.program.specs.Printed.{Came, refusal_line, out_text, unless_refused, says_from, end_line}

-- what a line of this frame and number leaves
abbrev pub next_by : ℕ → Option Frame → Came → Came
next_by n x s = record { reader = leaves n (taken s.reader x) s.reader; words = s.words ++ leaves n (words_by x) [] }

-- and what is printed from it on
pub says_line : (s : Came) (l : List ℕ) (ls : List (List ℕ)) (n : ℕ) (x : Option Frame) → line_answer s.reader x ≡ n → frame_of l ≡ x
    → says_from end_line s (l ∷ ls) ≡ unless_refused n (out_text x s ++ says_from end_line (next_by n x s) ls)
unfolding says_from turned
says_line s l ls n x e h =
    ap (λ y. unless_refused (line_answer s.reader y) (out_text y s ++ says_from end_line (next_by (line_answer s.reader y) y s) ls)) h
    ∙ ap (λ m. unless_refused m (out_text x s ++ says_from end_line (next_by m x s) ls)) e

-- where it is refused, its line alone
pub says_refused : (s : Came) (l : List ℕ) (ls : List (List ℕ)) (n : ℕ) (x : Option Frame) → line_answer s.reader x ≡ suc n → frame_of l ≡ x
    → says_from end_line s (l ∷ ls) ≡ refusal_line (suc n)
unfolding unless_refused
says_refused s l ls n x e h = says_line s l ls (suc n) x e h

-- after `04`: nothing where the input ends, and 10 for any line
abbrev pub done_says : List (List ℕ) → List ℕ
done_says [] = []
done_says (l ∷ ls) = refusal_line 10

pub says_done : (r : Reader) (ws : List ℕ) (ls : List (List ℕ)) → says_from end_line (record { reader = done r; words = ws }) ls ≡ done_says ls
unfolding says_from line_answer verdict unless_refused
says_done r ws [] = refl
says_done r ws (l ∷ ls) = refl

module _ (r : Reader) (words : List ℕ) where
  placed_alike : (ph : Phase) → in_place ph (Some (Words words)) ≡ in_place ph (Some Close)
  placed_alike phase.Start = refl
  placed_alike phase.Points = refl
  placed_alike phase.Words = refl
  placed_alike phase.Done = refl

  -- an `03` that there is room for gets what a `04` gets in its place
  pub same_number : Feeds r words → line_answer r (Some (Words words)) ≡ line_answer r (Some Close)
  unfolding line_answer verdict
  same_number h = rw (h.below, le-ltb _ _ h.within, placed_alike r.phase) refl

  -- and where a `04` is accepted it is so behind an `03`
  pub still_accepted : line_answer r (Some Close) ≡ 0 → line_answer (counted r words) (Some Close) ≡ 0
  unfolding line_answer verdict
  still_accepted a = let m : missing r ≡ false = (line_clear r (Some Close) a).1.1.0 in rw m refl
