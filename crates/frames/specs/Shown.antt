-- What a run shows. Assumes nothing.
use Rattle.std.specs.Prelude.{ℕ, List}
use Rattle.buffer.specs.Held.{Held}
use Rattle.runs.specs.State.{State}

-- the state that the lines left; and beside it what a copy is made of: the sums and the last words without the words that are gathered,
-- and these
pub record Shown : Type 0 where
  pub state : State
  pub out : List ℕ
  pub last : List ℕ
  pub gathered : Held ℕ
