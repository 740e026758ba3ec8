-- The end of the input: after a refusal, with no line held, and after the line that is. Assumes nothing.
use mathlib.Core.Path.{◌≡◌, refl, ap, ◌∙◌}
use mathlib.Core.Bool.{Bool, true, false}
use Prim.Native.Nat.{ℕ}
use mathlib.Core.List.{List, [], ◌∷◌, ◌++◌}
use Rattle.runs.specs.State.{State}
use Rattle.program.specs.Blocks.{Feeding, Fed, closing, end_text}
use Rattle.program.specs.Inner.{last_ended}

-- after a refusal
stopped_ends : (s : State) (held : List ℕ) → end_text (record { state = s; stopped = true; held = held }) ≡ []
unfolding end_text
stopped_ends s [] = refl
stopped_ends s (b ∷ bs) = refl

pub no_end : (f : Feeding) → f.stopped ≡ true → end_text f ≡ []
no_end f e = ap (λ t. end_text (record { state = f.state; stopped = t; held = f.held })) e ∙ stopped_ends f.state f.held

ends : (f : Feeding) → let s : Fed = last_ended (record { feeding = f; text = [] }) in s.text ++ closing s.feeding ≡ end_text f
unfolding end_text
ends f = go f.state f.stopped f.held
  where
    go : (st : State) (t : Bool) (held : List ℕ) → let f : Feeding = record { state = st; stopped = t; held = held } in
        let s : Fed = last_ended (record { feeding = f; text = [] }) in s.text ++ closing s.feeding ≡ end_text f
    go st true [] = refl
    go st true (b ∷ bs) = refl
    go st false [] = refl
    go st false (b ∷ bs) = refl

-- what is said of the end
pub finished : (f : Feeding) {a b : Fed} {text : List ℕ} → a ≡ record { feeding = f; text = [] } → b ≡ last_ended a
    → text ≡ b.text ++ closing b.feeding → text ≡ end_text f
finished f e q t = t ∙ ap (λ (s : Fed). s.text ++ closing s.feeding) (q ∙ ap last_ended e) ∙ ends f
