-- What an accepted line says of its arguments, frame by frame. Assumes nothing.
use mathlib.Core.Path.{◌≡◌, sym}
use mathlib.Core.Bool.{false}
use Prim.Native.Nat.{ℕ, ◌+◌, ◌-◌, ◌≤◌, ◌<◌}
use native.Mathlib.Omega.{arith}
use mathlib.Core.List.{List}
use lib.ListN.{length}
use Rattle.std.specs.Prelude.{Option, Some, None}
use borrow.Author.Tests.{ltb-false, leb-false}
use Rattle.algebra.specs.Words.{unreduced}
use Rattle.field.specs.Field.{p, Reduced}
use Rattle.field.specs.declared.Element.{Element}
use Rattle.table.specs.Refusals.{most}
use Rattle.table.proofs.Tests.{same}
use Rattle.table.proofs.Verdicts.{Numbered, Clear, clear}
use Rattle.plan.specs.Plan.{capacity}
use Rattle.frame.specs.declared.Opening.{Opening}
use Rattle.frame.specs.declared.Frame.{Frame}
use Rattle.frame.specs.declared.Frame.TheVariants.{Open, Coordinate, Words, Close}
use Rattle.runs.specs.declared.Reader.{Reader}
use Rattle.runs.specs.Reader.{most_places, open_tests, coordinate_tests, words_tests, own_tests, line_tests, line_answer}

-- an `01`
pub record Opens (o : Opening) : Type 0 where
  pub small : o.n ≤ most
  pub narrow : o.k ≤ most
  pub fits : o.k ≤ o.n
  pub few : o.n - o.k ≤ most_places
  pub scale_is : Reduced o.scale

-- an `02`
pub record Notes (r : Reader) (index : ℕ) (coordinate : Element) : Type 0 where
  pub next : index ≡ r.came
  pub below : index < r.session.plan.k
  pub coordinate_is : Reduced coordinate

-- an `03`: its words are below p, and there is room for them
pub record Feeds (r : Reader) (words : List ℕ) : Type 0 where
  pub below : unreduced p words ≡ false
  pub within : r.session.taken + length words ≤ capacity r.session.plan

pub open_clear : (o : Opening) → Clear (open_tests o) → Opens o
open_clear o h =
    record {
      small = ltb-false _ _ h.0;
      narrow = ltb-false _ _ h.1.0;
      fits = ltb-false _ _ h.1.1.0;
      few = ltb-false _ _ h.1.1.1.1.0;
      scale_is = record { words_below = h.1.1.1.0 };
    }

pub notes_clear : (r : Reader) (index : ℕ) (coordinate : Element) → Clear (coordinate_tests r index coordinate) → Notes r index coordinate
notes_clear r index coordinate h =
    let first = h.0 in
    let second = h.1.0 in
    record {
      next = omega (arith, same, ltb-false, leb-false);
      below = omega (arith, same, ltb-false, leb-false);
      coordinate_is = record { words_below = h.1.1.0 };
    }

pub feeds_clear : (r : Reader) (words : List ℕ) → Clear (words_tests r words) → Feeds r words
feeds_clear r words h =
    record { below = h.1.0; within = ltb-false _ _ h.1.1.0 }

numbered : (r : Reader) (x : Option Frame) → Numbered (own_tests r x)
numbered r (Some (Open o)) = tt
numbered r (Some (Coordinate index coordinate)) = tt
numbered r (Some (Words words)) = tt
numbered r (Some Close) = tt
numbered r None = tt

-- none of an accepted line's tests holds
pub line_clear : (r : Reader) (x : Option Frame) → line_answer r x ≡ 0 → Clear (line_tests r x)
unfolding line_answer
line_clear r x a = clear (line_tests r x) (numbered r x) (sym a)
