-- What blocks print beside what lines print: by one induction, for an input that goes on and for one that ends. Assumes nothing.
use mathlib.Core.Path.{◌≡◌, refl, sym, ap, ap₂, ◌∙◌}
use mathlib.Core.Bool.{Bool, true, false, cond}
use Prim.Native.Nat.{ℕ, zero, suc}
use mathlib.Core.List.{List, [], ◌∷◌, ◌++◌, append-nil, append_assoc}
use lib.Dec.{eqb}
use lib.ListN.{length, take, length-append}
use lib.Seq.{take-append-add}
use Rattle.std.specs.Prelude.{Option}
use Rattle.frame.specs.declared.Frame.{Frame}
use Rattle.frame.specs.Frame.{frame_of}
use Rattle.frame.proofs.Decoding.{cut_alike}
use Rattle.runs.specs.declared.Reader.{Reader}
use Rattle.runs.specs.Reader.{line_answer, turned, out_after, last_after}
use Rattle.runs.specs.State.{State, step}
use Rattle.program.specs.Printed.{line_feed, ended_from, rest_from, last_line, lines_of, Came, start, next, out_text, unless_refused, says_from, end_line, printed, told}
use Rattle.frame.specs.Frame.{most_line}
use Rattle.program.specs.Blocks.{Feeding, start_state, begun, is_refused, close_text, byte_step, byte_text, fed, said, end_text}
use Rattle.program.specs.Printing.{joined, after, texts, Printing}
use Rattle.program.proofs.Joining.{fed_append, said_append, stopped_fed, stopped_said, cut_once}
use Rattle.program.proofs.Ending.{no_end}
use Rattle.program.proofs.Telling.{lines_text, lines_alike}

-- a program that goes on, with what is held of a line, cut or not
abbrev going : State → List ℕ → Feeding
going s held = record { state = s; stopped = false; held = take most_line held }

-- a line, by its number, and what comes after it
by_number : (n : ℕ) (text rest : List ℕ) (more : List ℕ) → (is_refused n ≡ true → more ≡ []) → (is_refused n ≡ false → more ≡ rest)
    → unless_refused n text ++ more ≡ unless_refused n (text ++ rest)
unfolding unless_refused is_refused
by_number zero text rest more none some = ap (λ t. text ++ t) (some refl)
by_number (suc n) text rest more none some = ap (λ t. unless_refused (suc n) text ++ t) (none refl) ∙ append-nil _

-- lines that have ended, and a last part
module _ (ending : Reader → List ℕ) (last : List ℕ → List (List ℕ)) (tail : Feeding → List ℕ)
    (none : (f : Feeding) → f.stopped ≡ true → tail f ≡ [])
    (some : (s : State) (held : List ℕ) → tail (going s held) ≡ lines_text ending s (last held)) where
  -- what bytes print, and what comes after them
  abbrev all : Feeding → List ℕ → List ℕ
  all f bs = said f bs ++ tail (fed f bs)

  all_stopped : (f : Feeding) (bs : List ℕ) → f.stopped ≡ true → all f bs ≡ []
  all_stopped f bs e = ap₂ ◌++◌ (stopped_said f bs e) (ap tail (stopped_fed f bs e) ∙ none f e)

  -- the line of these bytes has ended
  abbrev after_line : State → Option Frame → Feeding
  after_line s x =
      record {
        state = record {
          reader = (turned s.reader x).1;
          out = out_after s.reader x s.out s.last;
          last = last_after s.reader x s.last;
        };
        stopped = is_refused (line_answer s.reader x);
        held = [];
      }

  line_said : (s : State) (x : Option Frame) (bs rest : List ℕ)
      → (let t : State = (after_line s x).state in all (going t []) bs ≡ rest)
      → unless_refused (line_answer s.reader x) (close_text x (after_line s x).state) ++ all (after_line s x) bs
      ≡ unless_refused (line_answer s.reader x) (close_text x (after_line s x).state ++ rest)
  line_said s x bs rest h =
      by_number (line_answer s.reader x) (close_text x (after_line s x).state) rest (all (after_line s x) bs)
      (all_stopped (after_line s x) bs)
      (λ e. ap (λ t. all (record { state = (after_line s x).state; stopped = t; held = [] }) bs) e ∙ h)

  pub by_lines : (s : State) (held input : List ℕ)
      → said (going s held) input ++ tail (fed (going s held) input) ≡ lines_text ending s (ended_from held input ++ last (rest_from held input))
  unfolding fed said ended_from rest_from lines_text
  by_lines s held [] = some s held
  by_lines s held (b ∷ bs) = go (eqb b line_feed) refl (by_lines (step held s) [] bs) (by_lines s (held ++ b ∷ []) bs)
    where
      go : (t : Bool) → eqb b line_feed ≡ t
          → all (going (step held s) []) bs ≡ lines_text ending (step held s) (ended_from [] bs ++ last (rest_from [] bs))
          → all (going s (held ++ b ∷ [])) bs ≡ lines_text ending s (ended_from (held ++ b ∷ []) bs ++ last (rest_from (held ++ b ∷ []) bs))
          → (byte_text (going s held) b ++ said (byte_step (going s held) b) bs) ++ tail (fed (byte_step (going s held) b) bs)
          ≡ lines_text ending s
          (cond t (held ∷ ended_from [] bs) (ended_from (held ++ b ∷ []) bs) ++ last (cond t (rest_from [] bs) (rest_from (held ++ b ∷ []) bs)))
      go true e line other =
          let x : Option Frame = frame_of held in
          let f : Feeding = after_line s x in
          rw (e, cut_alike held)
          (append_assoc (unless_refused (line_answer s.reader x) (close_text x f.state)) (said f bs) (tail (fed f bs))
          ∙ line_said s x bs (lines_text ending (step held s) (ended_from [] bs ++ last (rest_from [] bs))) line)
      go false e line other =
          rw e
          (ap (λ hs. all (record { state = s; stopped = false; held = hs }) bs) (cut_once most_line held (b ∷ [])) ∙ other)

no_more : (s : State) → [] ≡ lines_text (λ r. []) s []
unfolding lines_text
no_more s = refl

-- an input that goes on
so_far : (input : List ℕ) → said begun input ≡ told input
unfolding told
so_far input =
    sym (append-nil _) ∙ by_lines (λ r. []) (λ held. []) (λ f. []) (λ f e. refl) (λ s held. no_more s) start_state [] input
    ∙ lines_alike (λ r. []) _ ∙ ap (says_from (λ r. []) start) (append-nil _)

-- one that ends
at_end : (s : State) (held : List ℕ) → end_text (going s held) ≡ lines_text end_line s (last_line held)
unfolding end_text lines_text
at_end s [] = refl
at_end s (b ∷ bs) = rw (cut_alike (b ∷ bs)) (by_number _ _ _ _ (λ e. rw e) (λ e. rw e))

whole : (input : List ℕ) → said begun input ++ end_text (fed begun input) ≡ printed input
unfolding printed lines_of
whole input = by_lines end_line last_line end_text no_end at_end start_state [] input ∙ lines_alike end_line _

-- what is told is printed first
front : (n : ℕ) (text a b : List ℕ) → take (length a) b ≡ a
    → take (length (unless_refused n (text ++ a))) (unless_refused n (text ++ b)) ≡ unless_refused n (text ++ a)
unfolding unless_refused
front zero text a b e =
    ap (λ n. take n (text ++ b)) (length-append text a) ∙ take-append-add text b (length a) ∙ ap (λ t. text ++ t) e
front (suc n) text a b e = refl

lines_first : (s : Came) (ls ms : List (List ℕ)) → let none : Reader → List ℕ = λ r. [] in
    take (length (says_from none s ls)) (says_from end_line s (ls ++ ms)) ≡ says_from none s ls
unfolding says_from
lines_first s [] ms = refl
lines_first s (l ∷ ls) ms = front (line_answer s.reader (frame_of l)) (out_text (frame_of l) s) _ _ (lines_first (next l s) ls ms)

ended_append : (held xs ys : List ℕ) → ended_from held (xs ++ ys) ≡ ended_from held xs ++ ended_from (rest_from held xs) ys
unfolding ended_from rest_from
ended_append held [] ys = refl
ended_append held (x ∷ xs) ys = go (eqb x line_feed) (ended_append [] xs ys) (ended_append (held ++ x ∷ []) xs ys)
  where
    go : (t : Bool) → ended_from [] (xs ++ ys) ≡ ended_from [] xs ++ ended_from (rest_from [] xs) ys
        → ended_from (held ++ x ∷ []) (xs ++ ys) ≡ ended_from (held ++ x ∷ []) xs ++ ended_from (rest_from (held ++ x ∷ []) xs) ys
        → cond t (held ∷ ended_from [] (xs ++ ys)) (ended_from (held ++ x ∷ []) (xs ++ ys))
        ≡ cond t (held ∷ ended_from [] xs) (ended_from (held ++ x ∷ []) xs) ++ ended_from (cond t (rest_from [] xs) (rest_from (held ++ x ∷ []) xs)) ys
    go true line other = ap (λ ls. held ∷ ls) line
    go false line other = other

known : (input more : List ℕ) → take (length (told input)) (printed (input ++ more)) ≡ told input
unfolding printed told lines_of
known input more =
    ap (λ ls. take (length (told input)) (says_from end_line start (ls ++ last_line (rest_from [] (input ++ more))))) (ended_append [] input more)
    ∙ ap (λ ls. take (length (told input)) (says_from end_line start ls)) (append_assoc (ended_from [] input) _ _)
    ∙ lines_first start (ended_from [] input) _

-- blocks are their bytes, one after another
texts_joined : (f : Feeding) (blocks : List (List ℕ)) → texts f blocks ≡ said f (joined blocks)
unfolding said
texts_joined f [] = refl
texts_joined f (block ∷ blocks) =
    ap (λ t. said f block ++ t) (texts_joined (fed f block) blocks) ∙ sym (said_append f block (joined blocks))

after_joined : (f : Feeding) (blocks : List (List ℕ)) → after f blocks ≡ fed f (joined blocks)
unfolding fed
after_joined f [] = refl
after_joined f (block ∷ blocks) = after_joined (fed f block) blocks ∙ sym (fed_append f block (joined blocks))

pub printing : Printing
printing =
    record {
      so_far = λ blocks. texts_joined begun blocks ∙ so_far (joined blocks);
      whole = λ blocks. ap₂ (λ t f. t ++ end_text f) (texts_joined begun blocks) (after_joined begun blocks) ∙ whole (joined blocks);
      known = known;
    }
