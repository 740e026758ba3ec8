-- What feed and close leave is the session that was handed to them but for one field; refused, the session itself. Assumes nothing.
use mathlib.Core.Path.{◌≡◌, refl, ap, ◌∙◌}
use Prim.Native.Nat.{ℕ}
use mathlib.Core.Bool.{true}
use mathlib.Core.List.{List}
use Rattle.table.specs.Refusals.{number, leaves}
use Rattle.table.specs.declared.Refusal.{Refusal}
use Rattle.table.proofs.Answers.{kept}
use Rattle.ledger.specs.Session.{State, state, session_of, feed_answer, fed, feed_leaves, feed_step}
use Rattle.ledger.specs.Session.{close_answer, close_leaves, close_step}
use Rattle.ledger.specs.declared.Session.{Session}

-- the session as it was with the one field that is stored: feed's words taken, and close's mark, of the session that the core gives
abbrev pub counted : Session → Session → Session
counted s t = session_of s.plan t.taken s.closed

abbrev pub shut : Session → Session → Session
shut s t = session_of s.plan s.taken t.closed

-- what a call of number n answers, and leaves of the session and the out
abbrev call : ℕ → State → State → ℕ × State
call n new old = (n, leaves n new old)

-- accepted: where the session that the call leaves differs in that field alone, the stored session is what it leaves
stored : (store : Session → Session) (t : Session) (ws : List ℕ) (n : ℕ) (new old : State) → store new.session ≡ new.session
    → (0, state t ws) ≡ call n new old → (0, state (store t) ws) ≡ call n new old
stored store t ws n new old e q =
    ap (λ (y : ℕ × State). (y.0, state (store y.1.session) y.1.out)) q
    ∙ ap (λ s. (n, state s (leaves n new old).out)) (rw (← ap (λ (y : ℕ × State). y.0) q) e)

-- refused: the session is what it was
unstored : (r : Refusal) (t : Session) (ws : List ℕ) (n : ℕ) (new old : State)
    → (number r, state t ws) ≡ call n new old → (number r, state old.session ws) ≡ call n new old
unstored r t ws n new old q =
    ap (λ (y : ℕ × State). (y.0, state old.session y.1.out)) q
    ∙ ap (λ s. (n, state s (leaves n new old).out)) (rw (← ap (λ (y : ℕ × State). y.0) q, kept new old r) refl)

module _ (s t : Session) (out ws : List ℕ) where
  pub feed_stored : (piece : List ℕ) → (0, state t ws) ≡ feed_step (state s out) piece
      → (0, state (counted s t) ws) ≡ feed_step (state s out) piece
  unfolding feed_leaves
  feed_stored piece = stored (counted s) t ws (feed_answer (state s out) piece) (fed s piece out) (state s out) refl

  pub close_stored : (0, state t ws) ≡ close_step (state s out) → (0, state (shut s t) ws) ≡ close_step (state s out)
  unfolding close_leaves
  close_stored = stored (shut s) t ws (close_answer (state s out)) (state (session_of s.plan s.taken true) out) (state s out) refl

  pub feed_unstored : (r : Refusal) (piece : List ℕ) → (number r, state t ws) ≡ feed_step (state s out) piece
      → (number r, state s ws) ≡ feed_step (state s out) piece
  unfolding feed_leaves
  feed_unstored r piece = unstored r t ws (feed_answer (state s out) piece) (fed s piece out) (state s out)

  pub close_unstored : (r : Refusal) → (number r, state t ws) ≡ close_step (state s out)
      → (number r, state s ws) ≡ close_step (state s out)
  unfolding close_leaves
  close_unstored r = unstored r t ws (close_answer (state s out)) (state (session_of s.plan s.taken true) out) (state s out)
