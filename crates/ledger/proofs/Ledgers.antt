-- After an accepted open the session's run is the ledger's: the session is never broken, and every call answers and leaves the ledger's.
-- Assumes nothing.
use mathlib.Core.Path.{◌≡◌, refl, sym, ap, ap₂, ◌∙◌}
use mathlib.Core.Bool.{false}
use Prim.Native.Nat.{ℕ, zero, suc, ◌+◌, ◌-◌, ◌*◌, ◌≤◌}
use native.Mathlib.Omega.{arith}
use mathlib.Core.List.{List, [], ◌∷◌}
use lib.ListN.{length, drop, replicate, length-append}
use lib.Seq.{drop_at}
use borrow.Author.Tests.{ltb-false}
use Rattle.table.specs.Table.{entries}
use Rattle.table.specs.Refusals.{alone, most}
use Rattle.table.proofs.Verdicts.{clear}
use Rattle.plan.specs.declared.Plan.{Plan}
use Rattle.plan.specs.Plan.{width, capacity, fold_of}
use Rattle.plan.specs.Sound.{Sound}
use Rattle.plan.proofs.Joining as joining
use Rattle.ledger.specs.Session.{State, state, Args, planned, session_of, open_answer, open_leaves, nonzero, fed, feed_leaves, close_leaves, read_answer}
use Rattle.ledger.specs.Ledger.{Call, feed, close, read, run, session_step, Ledger, empty, ledger_read, ledger_answer, entered, ledger_step, ledger_state, told_all, joined}
use Rattle.ledger.specs.Demand3.{answers, after}
use Rattle.ledger.proofs.Accepted.{Opened, opened}
use Rattle.ledger.proofs.Runs.{settle, unchanged, runs}
use Rattle.ledger.proofs.SameAnswer.{Known, feed_same, close_same, read_same}

-- a sound plan, unused coordinates 0
module _ (plan : Plan) (ok : Sound plan) (unused : nonzero (drop (4 * plan.k) plan.coordinates) ≡ false) where
  -- an accepted call keeps what is known
  keeps : (c : Call) (l : Ledger) → Known plan l → (ledger_answer plan c l).number ≡ 0 → Known plan (entered c l)
  keeps (feed piece) l i e =
      let within : length l.words + length piece ≤ capacity plan = ltb-false _ _ (clear _ tt (sym e)).1.1.0 in
      record { room = simp length-append within; full = λ b. simp length-append (omega (arith, i.full b)) }
  keeps close l i e = record { room = i.room; full = λ b. ltb-false _ _ (clear _ tt (sym e)).1.0 }
  keeps (read place) l i e = i

  -- the session and out are the ledger's, of which that is known
  abbrev Tells : State → Ledger → Type 0
  Tells st l = (st ≡ ledger_state plan l) × Known plan l

  -- one call: the same answer, and what it leaves is the ledger's
  step_same : (c : Call) (st : State) (l : Ledger) → Tells st l
      → ((session_step c st).0 ≡ (ledger_step plan c l).0) × Tells (session_step c st).1 (ledger_step plan c l).1
  unfolding feed_leaves close_leaves
  step_same (feed piece) st l t =
      let v = feed_same plan ok unused piece l t.1 in
      let q : fed (ledger_state plan l).session piece (ledger_state plan l).out ≡ ledger_state plan (entered (feed piece) l) =
      ap₂ (λ n w. state (session_of plan n l.closed) w) (sym (length-append l.words piece)) (joining.joined plan l.words piece) in
      rw t.0 (ap alone v, settle Tells v (refl, t.1) (λ e. (q, keeps (feed piece) l t.1 e)))
  step_same close st l t =
      let v = close_same plan ok unused l t.1 in
      rw t.0 (ap alone v, settle Tells v (refl, t.1) (λ e. (refl, keeps close l t.1 e)))
  step_same (read place) st l t =
      rw (t.0, unchanged (ledger_read plan place l).number l) (read_same plan ok unused place l t.1, (refl, t.1))

nonzero_zeros : (m : ℕ) → nonzero (replicate m 0) ≡ false
unfolding nonzero
nonzero_zeros zero = refl
nonzero_zeros (suc m) = nonzero_zeros m

module _ (a : Args) (out : List ℕ) (h : open_answer a out ≡ 0) where
  abbrev ok : Opened a out
  ok = opened a out (sym h)

  -- out has an element for each column of each place
  pub elements_there : entries out ≡ width (planned a)
  elements_there = omega (arith, ok.room)

  unused_zero : nonzero (drop (4 * (planned a).k) (planned a).coordinates) ≡ false
  unused_zero = ap nonzero (drop_at a.point _ _ (sym ok.count)) ∙ nonzero_zeros (4 * most - length a.point)

  -- open's zeros are the fold of no words
  open_is : open_leaves a out ≡ ledger_state (planned a) empty
  unfolding open_leaves
  open_is =
      rw h
      (ap (state (session_of (planned a) 0 false)) (ap (λ m. replicate m 0) ok.room ∙ joining.none (planned a)))

  -- what the ledger holds after a list of calls
  abbrev held : List Call → Ledger
  held cs = (run (ledger_step (planned a)) cs empty).1

  both_run : (cs : List Call)
      → ((run session_step cs (open_leaves a out)).0 ≡ (run (ledger_step (planned a)) cs empty).0)
      × Tells (planned a) ok.sound unused_zero (after a out cs) (held cs)
  both_run cs =
      runs session_step (ledger_step (planned a)) (Tells (planned a) ok.sound unused_zero) (step_same (planned a) ok.sound unused_zero) cs _
      empty (open_is, record { room = omega arith; full = λ b. absurd (let z : ◌≡◌ {A = ℕ} 0 1 = cc in omega arith) })

  pub held_fits : (cs : List Call) → length (held cs).words ≤ capacity (planned a)
  held_fits cs = (both_run cs).1.1.room

  pub session_is_ledger : (cs : List Call)
      → run session_step cs (open_leaves a out)
      ≡ ((run (ledger_step (planned a)) cs empty).0, ledger_state (planned a) (run (ledger_step (planned a)) cs empty).1)
  session_is_ledger cs = ap₂ (λ vs (st : State). (vs, st)) (both_run cs).0 (both_run cs).1.0

  -- a read after the list is the ledger's
  pub read_after : (cs : List Call) (place : ℕ) → read_answer (after a out cs) place ≡ ledger_read (planned a) place (held cs)
  read_after cs place = rw (both_run cs).1.0 (read_same (planned a) ok.sound unused_zero place (held cs) (both_run cs).1.1)

-- the ledger is told each call and its answer
told_all_lem : (plan : Plan) (cs : List Call) (l : Ledger)
    → (run (ledger_step plan) cs l).1 ≡ told_all cs (run (ledger_step plan) cs l).0 l
told_all_lem plan [] l = refl
told_all_lem plan (c ∷ cs) l = told_all_lem plan cs _

-- the ledger's words are the joined accepted pieces, by the session's answers
pub words_are : (a : Args) (out : List ℕ) → open_answer a out ≡ 0 → (cs : List Call)
    → (run (ledger_step (planned a)) cs empty).1.words ≡ joined cs (answers a out cs)
words_are a out h cs =
    ap (λ l. l.words) (told_all_lem (planned a) cs empty ∙ ap (λ q. told_all cs q.0 empty) (sym (session_is_ledger a out h cs)))

-- no more than the table has
pub words_fit : (a : Args) (out : List ℕ) → open_answer a out ≡ 0 → (cs : List Call)
    → length (joined cs (answers a out cs)) ≤ capacity (planned a)
words_fit a out h cs = rw (sym (words_are a out h cs)) (held_fits a out h cs)

-- out is their fold
pub out_is : (a : Args) (out : List ℕ) → open_answer a out ≡ 0 → (cs : List Call)
    → (after a out cs).out ≡ fold_of (planned a) (joined cs (answers a out cs))
out_is a out h cs = ap (λ q. q.1.out) (session_is_ledger a out h cs) ∙ ap (fold_of (planned a)) (words_are a out h cs)
