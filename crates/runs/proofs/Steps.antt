-- What an accepted line says of its tests, by its frame; and what each kind keeps, every list of lines keeps. Assumes nothing.
use mathlib.Core.Path.{◌≡◌, refl}
use mathlib.Core.Bool.{true, false}
use Prim.Native.Nat.{ℕ, zero, suc, ◌≤◌}
use native.Mathlib.Omega.{arith}
use mathlib.Core.List.{List, [], ◌∷◌, ◌++◌, append-nil, append_assoc}
use lib.ListN.{length, replicate}
use borrow.Author.Tests.{ltb-false}
use Rattle.std.specs.Prelude.{Option, Some, None}
use Rattle.table.specs.Refusals.{leaves}
use Rattle.table.proofs.Verdicts.{Clear}
use Rattle.ledger.specs.declared.Session.{Session}
use Rattle.field.specs.declared.Element.{Element}
use Rattle.frame.specs.declared.Opening.{Opening}
use Rattle.frame.specs.declared.Frame.{Frame}
use Rattle.frame.specs.declared.Frame.TheVariants.{Open, Coordinate, Words, Close}
use Rattle.frame.specs.Frame.{frame_of}
use Rattle.frame.proofs.Decoding.{FourWords, four_words_lem}
use Rattle.runs.specs.declared.Phase.{Phase}
use Rattle.runs.specs.declared.Phase.TheVariants as phase
use Rattle.runs.specs.declared.Reader.{Reader}
use Rattle.runs.specs.Phases.{is_done}
use Rattle.runs.specs.Reader.{words_tests, line_tests, line_answer, opened, noted, counted, done, taken, gained, out_by, last_by, turned, out_after, last_after}
use Rattle.runs.proofs.Accepted.{Opens, open_clear, Notes, notes_clear, Feeds, feeds_clear, line_clear}
use Rattle.runs.specs.State.{State, step}
use Rattle.runs.specs.Runs.{after, is_opened}

pub never {ℓ} : {A : Type ℓ} → true ≡ false → A
never e = absurd (let z : ◌≡◌ {A = ℕ} 0 1 = cc in omega arith)

-- at `03` and `04`: an `01` came before, no `04` did, and no coordinate is missing
pub record Placed (r : Reader) : Type 0 where
  pub opened : is_opened r.phase ≡ true
  pub going : is_done r.phase ≡ false
  pub all : r.session.plan.k ≤ r.came

-- what an accepted line says
abbrev pub Says : Reader → Option Frame → Type 0
Says r (Some (Open o)) = (r.phase ≡ phase.Start) × Opens o
Says r (Some (Coordinate index coordinate)) = (r.phase ≡ phase.Points) × Notes r index coordinate
Says r (Some (Words words)) = Placed r × Feeds r words
Says r (Some Close) = Placed r
Says r None = ⊥

abbrev reader : Phase → Session → ℕ → Reader
reader ph s came = record { phase = ph; session = s; came = came }

words_says : (r : Reader) (words : List ℕ) → is_opened r.phase ≡ true → is_done r.phase ≡ false → Clear (words_tests r words)
    → Says r (Some (Words words))
words_says r words o g h = (record { opened = o; going = g; all = ltb-false _ _ h.0 }, feeds_clear r words h)

says : (ph : Phase) (s : Session) (came : ℕ) (x : Option Frame) → Clear (line_tests (reader ph s came) x) → Says (reader ph s came) x
says phase.Start s came (Some (Open o)) h = (refl, open_clear o h.1.1)
says phase.Start s came (Some (Coordinate i e)) h = never h.1.0
says phase.Start s came (Some (Words ws)) h = never h.1.0
says phase.Start s came (Some Close) h = never h.1.0
says phase.Start s came None h = never h.1.0
says phase.Points s came (Some (Open o)) h = never h.1.0
says phase.Points s came (Some (Coordinate i e)) h = (refl, notes_clear (reader phase.Points s came) i e h.1.1)
says phase.Points s came (Some (Words ws)) h = words_says (reader phase.Points s came) ws refl refl h.1.1
says phase.Points s came (Some Close) h = record { opened = refl; going = refl; all = ltb-false _ _ h.1.1.0 }
says phase.Points s came None h = never h.1.0
says phase.Words s came (Some (Open o)) h = never h.1.0
says phase.Words s came (Some (Coordinate i e)) h = never h.1.0
says phase.Words s came (Some (Words ws)) h = words_says (reader phase.Words s came) ws refl refl h.1.1
says phase.Words s came (Some Close) h = record { opened = refl; going = refl; all = ltb-false _ _ h.1.1.0 }
says phase.Words s came None h = never h.1.0
says phase.Done s came x h = never h.0

pub accepted : (r : Reader) (x : Option Frame) → line_answer r x ≡ 0 → Says r x
accepted r x e = says r.phase r.session r.came x (line_clear r x e)

abbrev pub state : Reader → List ℕ → List ℕ → State
state r out last = record { reader = r; out = out; last = last }

-- what accepted lines of each kind keep, of a state and of what the lines before it brought
pub record Keeps {A : Type 0} (by : Option Frame → List A) (Inv : State → List A → Type 0) : Type 0 where
  pub opens : (s : State) (o : Opening) (xs : List A) → Inv s xs → s.reader.phase ≡ phase.Start → Opens o
      → Inv (state (opened o) (replicate (length s.out) 0) s.last) (xs ++ by (Some (Open o)))
  pub notes : (s : State) (i : ℕ) (e : Element) (xs : List A) → Inv s xs → s.reader.phase ≡ phase.Points → Notes s.reader i e
      → length e.c ≡ 4 → Inv (state (noted s.reader i e) s.out s.last) (xs ++ by (Some (Coordinate i e)))
  pub takes : (s : State) (ws : List ℕ) (xs : List A) → Inv s xs → Placed s.reader → Feeds s.reader ws
      → Inv (state (counted s.reader ws) (gained s.reader ws s.out) (last_by s.reader (Some (Words ws)) s.last)) (xs ++ by (Some (Words ws)))
  pub closes : (s : State) (xs : List A) → Inv s xs → Placed s.reader
      → Inv (state (done s.reader) (out_by s.reader (Some Close) s.out s.last) s.last) (xs ++ by (Some Close))

-- what a line brings
abbrev pub brings : {A : Type 0} → (Option Frame → List A) → List ℕ → State → List A
brings by l s = leaves (line_answer s.reader (frame_of l)) (by (frame_of l)) []

module _ {A : Type 0} (by : Option Frame → List A) (Inv : State → List A → Type 0) (keeps : Keeps by Inv) where
  module _ (s : State) (xs : List A) (i : Inv s xs) where
    -- it is kept by an accepted line
    accepted_keeps : (x : Option Frame) → FourWords x → Says s.reader x
        → Inv (state (taken s.reader x) (out_by s.reader x s.out s.last) (last_by s.reader x s.last)) (xs ++ by x)
    accepted_keeps (Some (Open o)) w h = keeps.opens s o xs i h.0 h.1
    accepted_keeps (Some (Coordinate j e)) w h = keeps.notes s j e xs i h.0 h.1 w
    accepted_keeps (Some (Words ws)) w h = keeps.takes s ws xs i h.0 h.1
    accepted_keeps (Some Close) w h = keeps.closes s xs i h
    accepted_keeps None w h = absurd h

    -- by any line: refused, it changes nothing
    line_keeps : (x : Option Frame) → FourWords x → (n : ℕ) → (n ≡ 0 → Says s.reader x)
        → Inv
        (state (leaves n (taken s.reader x) s.reader) (leaves n (out_by s.reader x s.out s.last) s.out)
        (leaves n (last_by s.reader x s.last) s.last))
        (xs ++ leaves n (by x) [])
    line_keeps x w zero h = accepted_keeps x w (h refl)
    line_keeps x w (suc n) h = rw append-nil i

  pub step_keeps : (l : List ℕ) (s : State) (xs : List A) → Inv s xs → Inv (step l s) (xs ++ brings by l s)
  unfolding turned out_after last_after
  step_keeps l s xs i =
      line_keeps s xs i (frame_of l) (four_words_lem l) (line_answer s.reader (frame_of l)) (accepted s.reader (frame_of l))

  -- so by every list of lines, where `all` joins what they bring
  module _ (all : List (List ℕ) → State → List A) (nil : (s : State) → all [] s ≡ [])
      (more : (l : List ℕ) (ls : List (List ℕ)) (s : State) → all (l ∷ ls) s ≡ brings by l s ++ all ls (step l s)) where
    pub lines_keep : (ls : List (List ℕ)) (s : State) (xs : List A) → Inv s xs → Inv (after ls s) (xs ++ all ls s)
    lines_keep [] s xs i = rw (nil s, append-nil) i
    lines_keep (l ∷ ls) s xs i = rw (more l ls s, ← append_assoc) (lines_keep ls (step l s) _ (step_keeps l s xs i))
