-- What a call of the session gives, as the number and values that its contract speaks of. Assumes nothing.
use Rattle.std.specs.Prelude.{ℕ, List, Result, Ok, Err}
use Rattle.table.specs.Refusals.{number}
use Rattle.table.specs.declared.Refusal.{Refusal}
use Rattle.ledger.specs.declared.Session.{Session}
use Rattle.ledger.specs.Session.{State, state}

-- number and values of a call that gives a session: where it is refused, the session is `was`; the out is beside it
abbrev pub settled : Result Session Refusal → Session → List ℕ → ℕ × State
settled (Ok s) was out = (0, state s out)
settled (Err r) was out = (number r, state was out)
