-- What accepted calls say of their operands. Assumes nothing.
use mathlib.Core.Path.{◌≡◌}
use mathlib.Core.Bool.{false}
use Prim.Native.Nat.{ℕ, ◌+◌, ◌-◌, ◌*◌, ◌≤◌, ◌<◌}
use native.Mathlib.Nat.{le_trans}
use native.Mathlib.Omega.{arith}
use mathlib.Core.List.{List}
use lib.ListN.{length}
use borrow.Author.Tests.{ltb-false, leb-false}
use Rattle.algebra.specs.Words.{unreduced}
use Rattle.algebra.proofs.Words.{unreduced_append, unreduced_zeros}
use Rattle.field.specs.Field.{p, p_pos}
use Rattle.table.specs.Table.{entries}
use Rattle.table.specs.Refusals.{most, largest}
use Rattle.table.proofs.Tests.{whole}
use Rattle.table.proofs.Says.{counted}
use Rattle.table.proofs.Verdicts.{Clear, clear}
use Rattle.plan.specs.declared.Plan.{Plan}
use Rattle.plan.specs.Plan.{most_on, width}
use Rattle.plan.specs.Sound.{Sound, Takes}
use Rattle.plan.proofs.Columns.{few_words}
use Rattle.ledger.specs.Session.{State, Args, planned, open_tests, open_answer, feed_tests, feed_answer, read_tests, read_answer}

-- open: the point's words are four to an element, its plan is sound, and out has an element for each place
pub record Opened (a : Args) (out : List ℕ) : Type 0 where
  pub count : 4 * entries a.point ≡ length a.point
  pub sound : Sound (planned a)
  pub room : length out ≡ 4 * width (planned a)

pub opened : (a : Args) (out : List ℕ) → 0 ≡ open_answer a out → Opened a out
unfolding open_answer
opened a out e =
    let ts = open_tests a out in
    let h : Clear ts = clear ts tt e in
    let columns = h.1.1.1.1 in
    let lengths = columns.1.1 in
    record {
      count = whole a.point h.0;
      sound = record {
        small = ltb-false most a.n h.1.1.0;
        fits = ltb-false a.n (entries a.point) lengths.0;
        some_columns = ltb-false a.columns 1 columns.0;
        few_columns = ltb-false (most_on a.side) a.columns columns.1.0;
        scale_is = record { words_below = lengths.1.1.1.0 };
        coordinates_below = unreduced_append _ a.point _ lengths.1.1.0 (unreduced_zeros _ p_pos (4 * most - length a.point));
      };
      room = counted out (width (planned a)) h.1.0 lengths.1.0;
    }

-- feed: the session takes the piece
pub fed : (st : State) (piece : List ℕ) → 0 ≡ feed_answer st piece → Takes st.session.plan st.session.taken piece st.out
unfolding feed_answer
fed st piece e =
    let h : Clear (feed_tests st piece) = clear (feed_tests st piece) tt e in
    let columns = h.1.1 in
    let words = columns.1.1 in
    let later = words.1.1.1.1.1.1 in
    record {
      sound = record {
        small = ltb-false _ _ h.0;
        fits = ltb-false _ _ h.1.0;
        some_columns = ltb-false _ _ columns.0;
        few_columns = ltb-false _ _ columns.1.0;
        scale_is = record { words_below = words.1.0 };
        coordinates_below = words.1.1.0;
      };
      within = ltb-false _ _ later.1.1.1.1.0;
      piece_below = later.1.1.1.0;
      room = counted st.out (width st.session.plan) later.0 later.1.0;
      out_below = later.1.1.0;
    }

-- so the count of words taken is far from the largest number
pub few_taken : {plan : Plan} {taken : ℕ} {piece out : List ℕ} → Takes plan taken piece out → taken + length piece ≤ largest
few_taken d = le_trans d.within (few_words d.sound)

-- read: the place's words are in out, and below p
pub readable : (st : State) (place : ℕ) → 0 ≡ (read_answer st place).number
    → (4 * place + 3 < length st.out) × (unreduced p st.out ≡ false)
unfolding read_answer
readable st place e =
    let h : Clear (read_tests st place) = clear (read_tests st place) tt e in
    let out = h.1.1.1.1.1.1.1.1.1 in
    let there = counted st.out (width st.session.plan) out.0 out.1.0 in
    (omega (arith, there, leb-false (width st.session.plan) place out.1.1.1.0), out.1.1.0)
