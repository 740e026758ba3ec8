-- The words that the accepted `03` lines brought are below p, and no more than the table has. Assumes nothing.
use mathlib.Core.Path.{◌≡◌, refl, ap}
use mathlib.Core.Bool.{false}
use Prim.Native.Nat.{ℕ, ◌≤◌}
use native.Mathlib.Omega.{arith}
use mathlib.Core.List.{List, [], ◌++◌, append-nil}
use lib.ListN.{length, length-append}
use Rattle.algebra.specs.Words.{unreduced}
use Rattle.algebra.proofs.Words.{unreduced_append}
use Rattle.field.specs.Field.{p}
use Rattle.plan.specs.Plan.{capacity}
use Rattle.frame.specs.Frame.{frame_of}
use Rattle.runs.specs.declared.Reader.{Reader}
use Rattle.runs.specs.Reader.{turned}
use Rattle.runs.specs.State.{State}
use Rattle.runs.specs.Runs.{start, words_by, is_settled}
use Rattle.runs.proofs.Steps.{Keeps, state, brings, step_keeps}
use Rattle.runs.proofs.Counted.{Counted, counted_start, counted_keeps}

pub record Within (s : State) (ws : List ℕ) : Type 0 where
  pub counted : Counted s ws
  pub fits : length ws ≤ capacity s.reader.session.plan
  pub below : unreduced p ws ≡ false

pub within_start : (out last : List ℕ) → Within (start out last) []
unfolding unreduced
within_start out last = record { counted = counted_start out last; fits = omega arith; below = refl }

pub within_keeps : Keeps words_by Within
within_keeps =
    record {
      opens = λ s o ws i e h.
          let z : ws ≡ [] = i.counted.none (ap is_settled e) in
          record {
            counted = counted_keeps.opens s o ws i.counted e h;
            fits = rw z (omega arith);
            below = rw append-nil i.below;
          };
      notes = λ s j x ws i e h l.
          rw append-nil
          (record { counted = rw append-nil at (counted_keeps.notes s j x ws i.counted e h l); fits = i.fits; below = i.below });
      takes = λ s more ws i h w.
          record {
            counted = counted_keeps.takes s more ws i.counted h w;
            fits = omega (arith, i.counted.count, w.within, length-append ws more);
            below = unreduced_append p ws more i.below w.below;
          };
      closes = λ s ws i h.
          rw append-nil
          (record { counted = rw append-nil at (counted_keeps.closes s ws i.counted h); fits = i.fits; below = i.below });
    }

-- out and the last words have no part in it
pub within_line : (l : List ℕ) (r : Reader) (ws : List ℕ) → Within (state r [] []) ws
    → Within (state (turned r (frame_of l)).1 [] []) (ws ++ brings words_by l (state r [] []))
within_line l r ws i =
    let h = step_keeps words_by Within within_keeps l (state r [] []) ws i in
    record { counted = record { count = h.counted.count; none = h.counted.none; one = h.counted.one }; fits = h.fits; below = h.below }
