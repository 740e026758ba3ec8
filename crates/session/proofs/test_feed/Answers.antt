-- The tests that close shares, and two more. Assumes nothing.
use Rattle.std.proofs.Common.{◌≡◌, ℕ, ◌+◌, List, [], ◌∷◌, length, nat_lt, arith}
use Rattle.algebra.specs.Words.{unreduced}
use Rattle.field.specs.Field.{p}
use Rattle.table.specs.Refusals.{Test, ◌gives◌, verdict}
use Rattle.table.proofs.Verdicts.{tests}
use Rattle.plan.specs.Plan.{capacity}
use Rattle.ledger.specs.Session.{State, state, feed_answer}
use Rattle.ledger.proofs.Left.{left_test}
use Rattle.session.specs.Inner.{ready_tests}
use Rattle.session.proofs.Joining.{refused, accepted, of_ready}
use Rattle.session.proofs.test_feed.Goals as goal

-- the tests behind those that are shared
abbrev later : State → List ℕ → List Test
later st piece = unreduced p piece gives 5 ∷ nat_lt (capacity st.session.plan) (st.session.taken + length piece) gives 8 ∷ []

whole : (st : State) (piece : List ℕ) → 0 ≡ verdict (ready_tests st) → feed_answer st piece ≡ verdict (later st piece)
unfolding feed_answer
whole st piece e = accepted (ready_tests st) (later st piece) tt e

pub returns-in_err-test_ready : goal.returns-in_err-test_ready
unfolding feed_answer
returns-in_err-test_ready c =
    let st = state c.args.s.now c.args.out.now in
    grind (arith, refused (ready_tests st) (later st c.args.piece.now) _ c.in_err-test_ready.ensures)

pub words-requires : goal.words-requires
words-requires c =
    let h = of_ready (state c.args.s.now c.args.out.now) c.in_ok-test_ready.ensures in
    (h.small, h.few_columns)

pub overflow_sub-left : goal.overflow_sub-left
overflow_sub-left c = omega (arith, c.words.ensures, (of_ready (state c.args.s.now c.args.out.now) c.in_ok-test_ready.ensures).room)

pub returns-in_err-refuse_if : goal.returns-in_err-refuse_if
returns-in_err-refuse_if c = grind (arith, tests, whole (state c.args.s.now c.args.out.now) c.args.piece.now c.in_ok-test_ready.ensures)

pub returns : goal.returns
returns c =
    let room = (of_ready (state c.args.s.now c.args.out.now) c.in_ok-test_ready.ensures).room in
    let left = left_test _ _ c.args.s.now.taken (length c.args.piece.now) c.words.ensures room in
    grind (arith, tests, left, whole (state c.args.s.now c.args.out.now) c.args.piece.now c.in_ok-test_ready.ensures)
