-- What the inner functions go through. No operation that users call cites it. Assumes nothing.
use Rattle.std.specs.Prelude.{List, ◌∷◌, ◌++◌}
use Rattle.table.specs.Refusals.{Test, ◌gives◌}
use Rattle.ledger.specs.Session.{State, record_tests, out_tests}

-- the tests that feed and close share
abbrev pub ready_tests : State → List Test
ready_tests st = record_tests st.session ++ st.session.closed gives 10 ∷ out_tests st
