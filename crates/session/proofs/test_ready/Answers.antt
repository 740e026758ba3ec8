-- The record, 10, and out. Assumes nothing.
use Rattle.std.proofs.Common.{◌≡◌, sym, ◌∙◌, ℕ, List, ◌∷◌, arith}
use Rattle.table.specs.Refusals.{Test, ◌gives◌, verdict}
use Rattle.table.proofs.Verdicts.{tests, passing}
use Rattle.ledger.specs.declared.Session.{Session}
use Rattle.ledger.specs.Session.{state, record_tests, out_tests}
use Rattle.session.specs.Inner.{ready_tests}
use Rattle.session.proofs.Joining.{refused, accepted, of_record}
use Rattle.session.proofs.test_ready.Goals as goal

-- the tests behind those of the record
abbrev later : Session → List ℕ → List Test
later s out = s.closed gives 10 ∷ out_tests (state s out)

whole : (s : Session) (out : List ℕ) → 0 ≡ verdict (record_tests s) → verdict (ready_tests (state s out)) ≡ verdict (later s out)
whole s out e = accepted (record_tests s) (later s out) tt e

pub returns-in_err-test_record : goal.returns-in_err-test_record
returns-in_err-test_record c =
    grind (arith, refused (record_tests c.args.s.now) (later c.args.s.now c.args.out.now) _ c.in_err-test_record.ensures)

pub returns-in_err-refuse_if : goal.returns-in_err-refuse_if
returns-in_err-refuse_if c = grind (arith, tests, whole c.args.s.now c.args.out.now c.in_ok-test_record.ensures)

pub test_out-requires : goal.test_out-requires
test_out-requires c = let h = of_record c.args.s.now c.in_ok-test_record.ensures in (h.fits, h.small, h.few_columns)

pub returns : goal.returns
returns c =
    c.test_out.ensures
    ∙ sym
    (whole c.args.s.now c.args.out.now c.in_ok-test_record.ensures
    ∙ passing _ 10 (out_tests (state c.args.s.now c.args.out.now)) c.in_ok-refuse_if.ensures)
