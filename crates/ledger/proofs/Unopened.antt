-- From a refused open every call is 11, and nothing changes. Assumes nothing.
use mathlib.Core.Path.{◌≡◌, refl, ap, ◌∙◌}
use Prim.Native.Nat.{ℕ, zero, suc}
use mathlib.Core.List.{List, [], ◌∷◌}
use lib.ListN.{length, replicate}
use Rattle.table.specs.Refusals.{verdict, leaves, alone}
use Rattle.ledger.specs.Session.{State, state, Args, open_answer, opened, open_leaves, no_session, feed_answer, feed_leaves, close_answer, close_leaves, read_answer}
use Rattle.ledger.specs.Ledger.{Call, feed, close, read, run, session_step}

-- n is over 20
step_refused : (out : List ℕ) (c : Call) → session_step c (state no_session out) ≡ (alone 11, state no_session out)
unfolding no_session verdict feed_answer feed_leaves close_answer close_leaves read_answer
step_refused out (feed piece) = refl
step_refused out close = refl
step_refused out (read place) = refl

all_refused : (out : List ℕ) (cs : List Call) → run session_step cs (state no_session out) ≡ (replicate (length cs) (alone 11), state no_session out)
all_refused out [] = refl
all_refused out (c ∷ cs) = rw (step_refused out c, all_refused out cs)

pub unopened : (a : Args) (out : List ℕ) → (open_answer a out ≡ 0 → ⊥) → (cs : List Call)
    → run session_step cs (open_leaves a out) ≡ (replicate (length cs) (alone 11), state no_session out)
unfolding open_leaves
unopened a out h cs = ap (run session_step cs) (go (open_answer a out) (opened a out) h) ∙ all_refused out cs
  where
    go : (n : ℕ) (new : State) → (n ≡ 0 → ⊥) → leaves n new (state no_session out) ≡ state no_session out
    go zero new h = absurd (h refl)
    go (suc n) new h = refl
