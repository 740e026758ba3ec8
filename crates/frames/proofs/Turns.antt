-- What a line leaves, by its answer. Assumes nothing.
use mathlib.Core.Path.{◌≡◌, refl, sym, ap, ◌∙◌}
use Prim.Native.Nat.{ℕ}
use Rattle.std.specs.Prelude.{Option, Some}
use Rattle.table.specs.Refusals.{number, verdict}
use Rattle.table.specs.declared.Refusal.{Refusal}
use Rattle.table.proofs.Fronts.{front_refused, front_passed}
use Rattle.table.proofs.Outcomes.{refused_leaves, accepted_leaves}
use Rattle.frame.specs.declared.Frame.{Frame}
use Rattle.runs.specs.Reader.{shared_tests, own_tests, frame_tests, line_answer, taken, out_by, last_by, turned, out_after, last_after}
use Rattle.runs.specs.State.{State}
use Rattle.frames.specs.After.{after_frame, after_accepted}

-- a line that is accepted in a state
pub accepted_in : {s t : State} → s ≡ t → (f : Frame) → line_answer t.reader (Some f) ≡ 0 → line_answer s.reader (Some f) ≡ 0
accepted_in e f a = ap (λ s. line_answer s.reader (Some f)) e ∙ a

module _ (s : State) (x : Option Frame) where
  -- a refused line
  pub unchanged : (e : Refusal) → number e ≡ line_answer s.reader x → s ≡ after_frame x s
  unfolding turned out_after last_after
  unchanged e h =
      let r = refused_leaves _ e h (taken s.reader x) s.reader in
      let o = refused_leaves _ e h (out_by s.reader x s.out s.last) s.out in
      let l = refused_leaves _ e h (last_by s.reader x s.last) s.last in
      rw (r, o, l) refl

  -- by the tests that all lines share
  pub out_of_place : (e : Refusal) → number e ≡ verdict (shared_tests s.reader.phase x) → number e ≡ line_answer s.reader x
  unfolding line_answer
  out_of_place e h = front_refused (shared_tests s.reader.phase x) (own_tests s.reader x) tt e h

  -- past them, a frame's own tests decide
  module _ {f : Frame} (is : x ≡ Some f) (placed : 0 ≡ verdict (shared_tests s.reader.phase x)) where
    pub answered : {n : ℕ} → n ≡ verdict (frame_tests s.reader f) → n ≡ line_answer s.reader x
    unfolding line_answer
    answered h =
        front_passed (shared_tests s.reader.phase x) (own_tests s.reader x) tt placed (h ∙ ap (λ y. verdict (own_tests s.reader y)) (sym is))

    pub line_accepted : 0 ≡ verdict (frame_tests s.reader f) → line_answer s.reader (Some f) ≡ 0
    line_accepted h = ap (line_answer s.reader) (sym is) ∙ sym (answered h)

    -- an accepted line
    pub changed : 0 ≡ verdict (frame_tests s.reader f) → after_accepted f s ≡ after_frame x s
    unfolding turned out_after last_after
    changed h =
        let zero = line_accepted h in
        let r = accepted_leaves _ (sym zero) (taken s.reader (Some f)) s.reader in
        let o = accepted_leaves _ (sym zero) (out_by s.reader (Some f) s.out s.last) s.out in
        let l = accepted_leaves _ (sym zero) (last_by s.reader (Some f) s.last) s.last in
        rw (is, r, o, l) refl
