-- What a fold of a table in bytes takes, and what a section is of it. No operation that users call cites it. Assumes nothing.
use Rattle.std.specs.Prelude.{◌≡◌, false, ℕ, ◌+◌, ◌-◌, ◌*◌, ◌≤◌, List, length}
use Rattle.octets.specs.Octets.{words}
use Rattle.algebra.specs.Words.{unreduced}
use Rattle.field.specs.Field.{p}
use Rattle.plan.specs.declared.Plan.{Plan}
use Rattle.plan.specs.Plan.{rows, places, capacity}
use Rattle.plan.specs.Sound.{Sound}

-- most places whose sums are held at a time, as variables
abbrev pub most_held : ℕ
most_held = 10

-- a sound plan's whole table in bytes, of one column, reduced, and the bytes of an element of out for each place
pub record FillsBytes (plan : Plan) (table out : List ℕ) : Type 0 where
  pub sound : Sound plan
  pub one_column : plan.columns ≡ 1
  pub count : length table ≡ 4 * capacity plan
  pub below : unreduced p (words table) ≡ false
  pub room : length out ≡ 16 * places plan

-- a sound plan of one column and few places, those from `from` on of the `inner` ones of a table in bytes
pub record Cut (plan : Plan) (inner from : ℕ) (table : List ℕ) : Type 0 where
  pub sound : Sound plan
  pub one_column : plan.columns ≡ 1
  pub few : plan.n - plan.k ≤ most_held
  pub within : from + places plan ≤ inner
  pub count : length table ≡ 4 * (rows plan * inner)
  pub below : unreduced p (words table) ≡ false
