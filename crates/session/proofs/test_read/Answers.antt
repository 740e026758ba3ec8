-- The record, out, and 14. Assumes nothing.
use Rattle.std.proofs.Common.{◌≡◌, sym, ap, ◌∙◌, ℕ, List, [], ◌∷◌, ◌++◌, nat_le, arith}
use Rattle.table.specs.Table.{entries}
use Rattle.table.specs.Refusals.{Test, ◌gives◌, verdict}
use Rattle.table.proofs.Tests.{same}
use Rattle.table.proofs.Verdicts.{tests, Clear, clear}
use Rattle.plan.specs.Plan.{width}
use Rattle.ledger.specs.Session.{State, state, record_tests, out_tests, read_answer}
use Rattle.session.proofs.Joining.{refused, accepted, of_record}
use Rattle.session.proofs.test_read.Goals as goal

-- the tests behind those of the record, and the one behind those of out
abbrev last : State → ℕ → List Test
last st place = nat_le (width st.session.plan) place gives 14 ∷ []

abbrev later : State → ℕ → List Test
later st place = out_tests st ++ last st place

whole : (st : State) (place : ℕ) → 0 ≡ verdict (record_tests st.session) → (read_answer st place).number ≡ verdict (later st place)
unfolding read_answer
whole st place e = accepted (record_tests st.session) (later st place) tt e

-- out has an element for each column of each place
behind_out : (st : State) (place : ℕ) → 0 ≡ verdict (out_tests st)
    → verdict (later st place) ≡ verdict (nat_le (entries st.out) place gives 14 ∷ [])
behind_out st place e =
    let h : Clear (out_tests st) = clear (out_tests st) tt e in
    accepted (out_tests st) (last st place) tt e ∙ ap (λ n. verdict (nat_le n place gives 14 ∷ [])) (sym (same _ _ h.1.0))

pub returns-in_err-test_record : goal.returns-in_err-test_record
unfolding read_answer
returns-in_err-test_record c =
    let st = state c.args.s.now c.args.out.now in
    grind (arith, refused (record_tests st.session) (later st c.args.place) _ c.in_err-test_record.ensures)

pub test_out-requires : goal.test_out-requires
test_out-requires c = let h = of_record c.args.s.now c.in_ok-test_record.ensures in (h.fits, h.small, h.few_columns)

pub returns-in_err-test_out : goal.returns-in_err-test_out
returns-in_err-test_out c =
    let st = state c.args.s.now c.args.out.now in
    let e = refused (out_tests st) (last st c.args.place) _ c.in_err-test_out.ensures in
    grind (arith, whole st c.args.place c.in_ok-test_record.ensures, e)

pub returns : goal.returns
returns c =
    let st = state c.args.s.now c.args.out.now in
    grind (arith, tests, whole st c.args.place c.in_ok-test_record.ensures, behind_out st c.args.place c.in_ok-test_out.ensures)
