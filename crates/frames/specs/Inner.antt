-- What the functions take and give beside their outcomes. Assumes nothing.
use Rattle.std.specs.Prelude.{◌≤◌}
use Rattle.plan.specs.Plan.{capacity}
use Rattle.plan.specs.Sound.{Sound}
use Rattle.runs.specs.declared.Reader.{Reader}

-- the state alone
pub record InLimits (r : Reader) : Type 0 where
  pub sound : Sound r.session.plan
  pub within : r.session.taken ≤ capacity r.session.plan
