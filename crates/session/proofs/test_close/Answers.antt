-- The tests that feed shares, and one more. Assumes nothing.
use Rattle.std.proofs.Common.{◌≡◌, List, [], ◌∷◌, nat_lt, arith}
use Rattle.table.specs.Refusals.{Test, ◌gives◌, verdict}
use Rattle.table.proofs.Verdicts.{tests}
use Rattle.plan.specs.Plan.{capacity}
use Rattle.ledger.specs.Session.{State, state, close_answer}
use Rattle.session.specs.Inner.{ready_tests}
use Rattle.session.proofs.Joining.{refused, accepted, of_ready}
use Rattle.session.proofs.test_close.Goals as goal

-- the test behind those that are shared
abbrev later : State → List Test
later st = nat_lt st.session.taken (capacity st.session.plan) gives 9 ∷ []

whole : (st : State) → 0 ≡ verdict (ready_tests st) → close_answer st ≡ verdict (later st)
unfolding close_answer
whole st e = accepted (ready_tests st) (later st) tt e

pub returns-in_err-test_ready : goal.returns-in_err-test_ready
unfolding close_answer
returns-in_err-test_ready c =
    let st = state c.args.s.now c.args.out.now in
    grind (arith, refused (ready_tests st) (later st) _ c.in_err-test_ready.ensures)

pub words-requires : goal.words-requires
words-requires c =
    let h = of_ready (state c.args.s.now c.args.out.now) c.in_ok-test_ready.ensures in
    (h.small, h.few_columns)

pub returns : goal.returns
returns c = grind (arith, tests, whole (state c.args.s.now c.args.out.now) c.in_ok-test_ready.ensures)
