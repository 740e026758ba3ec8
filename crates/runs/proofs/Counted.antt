-- The words taken are as many as the accepted `03` lines brought, and before the first of them none were; and a session has one column.
-- Assumes nothing.
use mathlib.Core.Path.{◌≡◌, refl, sym, ap, ◌∙◌}
use mathlib.Core.Bool.{false}
use Prim.Native.Nat.{ℕ, ◌+◌}
use mathlib.Core.List.{List, [], append-nil}
use lib.ListN.{length, length-append}
use Rattle.runs.specs.Reader.{started}
use Rattle.runs.specs.State.{State}
use Rattle.runs.specs.Runs.{start, words_by, is_settled}
use Rattle.runs.proofs.Steps.{never, Keeps}

pub record Counted (s : State) (ws : List ℕ) : Type 0 where
  pub count : s.reader.session.taken ≡ length ws
  pub none : is_settled s.reader.phase ≡ false → ws ≡ []
  pub one : s.reader.session.plan.columns ≡ 1

pub counted_start : (out last : List ℕ) → Counted (start out last) []
unfolding started
counted_start out last = record { count = refl; none = λ q. refl; one = refl }

pub counted_keeps : Keeps words_by Counted
counted_keeps =
    record {
      opens = λ s o ws i e h.
          let z : ws ≡ [] = i.none (ap is_settled e) in
          rw z (record { count = refl; none = λ q. refl; one = refl });
      notes = λ s j x ws i e h l. rw append-nil (record { count = i.count; none = i.none; one = i.one });
      takes = λ s more ws i h w.
          record { count = ap (λ n. n + length more) i.count ∙ sym (length-append ws more); none = λ q. never q; one = i.one };
      closes = λ s ws i h. rw append-nil (record { count = i.count; none = λ q. never q; one = i.one });
    }
