-- What the laws and the code share beside the outcomes. Assumes nothing.
use Rattle.std.specs.Prelude.{ℕ}
use Rattle.ledger.specs.Session.{session_of}
use Rattle.runs.specs.declared.Phase.{Phase}
use Rattle.runs.specs.declared.Reader.{Reader}

-- the same state in another phase, with so many words taken
abbrev pub marked_as : Reader → Phase → ℕ → Reader
marked_as r phase taken =
    record { phase = phase; session = session_of r.session.plan taken r.session.closed; came = r.came }
