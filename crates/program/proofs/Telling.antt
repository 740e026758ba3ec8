-- The text that lines print from out is the text that their words give: at `04` out is the fold of the padded table. Assumes nothing.
use mathlib.Core.Path.{◌≡◌, refl, sym, ap, ap₂, ◌∙◌}
use Prim.Native.Nat.{ℕ, zero, suc, ◌*◌, ◌^◌}
use mathlib.Core.List.{List, [], ◌∷◌, ◌++◌, append-nil}
use lib.ListN.{length-replicate}
use Rattle.std.specs.Prelude.{Option, Some, None}
use Rattle.table.specs.Refusals.{leaves}
use Rattle.plan.specs.declared.Plan.{Plan}
use Rattle.plan.specs.Plan.{width}
use Rattle.padding.specs.Padding.{padded_table}
use Rattle.frame.specs.declared.Frame.{Frame}
use Rattle.frame.specs.declared.Frame.TheVariants.{Open, Coordinate, Words, Close}
use Rattle.frame.specs.Frame.{frame_of}
use Rattle.runs.specs.declared.Reader.{Reader}
use Rattle.runs.specs.Reader.{most_places, line_answer, taken, out_by, last_by, turned, out_after, last_after}
use Rattle.runs.specs.State.{State, number_of, step}
use Rattle.runs.specs.Runs.{words_by}
use Rattle.runs.proofs.Steps.{Says, accepted, state, step_keeps}
use Rattle.runs.proofs.Folded.{Folded, folded_start, folded_keeps}
use Rattle.program.specs.Printed.{out_lines, Came, start, fold_lines, out_text, unless_refused, says_from}
use Rattle.program.specs.Blocks.{start_state, close_text}
use Rattle.program.proofs.Texts.{front}

-- what lines print, one after another, from the out that each leaves; where they end, `ending` of the reader
unfoldable pub lines_text : (Reader → List ℕ) → State → List (List ℕ) → List ℕ
lines_text ending s [] = ending s.reader
lines_text ending s (line ∷ lines) =
    unless_refused (number_of s line) (close_text (frame_of line) (step line s) ++ lines_text ending (step line s) lines)

-- the reader, and the words that came
abbrev came_to : State → List ℕ → Came
came_to s ws = record { reader = s.reader; words = ws }

-- what a line of this answer leaves
abbrev left_by : ℕ → State → Option Frame → State
left_by n s x =
    state (leaves n (taken s.reader x) s.reader) (leaves n (out_by s.reader x s.out s.last) s.out) (leaves n (last_by s.reader x s.last) s.last)

module _ (s : State) (ws : List ℕ) (i : Folded s ws) where
  -- an accepted line
  close_alike : (x : Option Frame) → Says s.reader x → close_text x (left_by 0 s x) ≡ out_text x (came_to s ws)
  close_alike (Some Close) h =
      let plan : Plan = s.reader.session.plan in
      sym (front (width plan) _) ∙ ap (out_lines (width plan)) ((folded_keeps.closes s ws i h).pads refl)
      ∙ ap (λ vs. fold_lines plan (padded_table plan vs)) (append-nil ws)
  close_alike (Some (Open o)) h = refl
  close_alike (Some (Coordinate j e)) h = refl
  close_alike (Some (Words more)) h = refl
  close_alike None h = refl

  -- any line, by its number
  line_alike : (x : Option Frame) (n : ℕ) → (n ≡ 0 → Says s.reader x) → {a b : List ℕ} → a ≡ b
      → unless_refused n (close_text x (left_by n s x) ++ a) ≡ unless_refused n (out_text x (came_to s ws) ++ b)
  unfolding unless_refused
  line_alike x zero h e = ap₂ ◌++◌ (close_alike x (h refl)) e
  line_alike x (suc n) h e = refl

module _ (ending : Reader → List ℕ) where
  from_state : (s : State) (ws : List ℕ) → Folded s ws → (ls : List (List ℕ)) → lines_text ending s ls ≡ says_from ending (came_to s ws) ls
  unfolding lines_text says_from turned out_after last_after
  from_state s ws i [] = refl
  from_state s ws i (l ∷ ls) =
      line_alike s ws i (frame_of l) (line_answer s.reader (frame_of l)) (accepted s.reader (frame_of l))
      (from_state (step l s) _ (step_keeps words_by Folded folded_keeps l s ws i) ls)

  pub lines_alike : (ls : List (List ℕ)) → lines_text ending start_state ls ≡ says_from ending start ls
  lines_alike ls =
      from_state start_state []
      (folded_start _ _ (record { elements = length-replicate {A = ℕ} (4 * 2 ^ most_places) 0; words = length-replicate {A = ℕ} (2 ^ most_places) 0 })) ls
