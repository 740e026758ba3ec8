-- What functions that compute with a plan find. Assumes nothing.
use Rattle.std.specs.Prelude.{◌≡◌, false, ℕ, ◌+◌, ◌*◌, ◌≤◌, ◌<◌, List, length}
use Rattle.algebra.specs.Words.{unreduced}
use Rattle.field.specs.Field.{p, Reduced}
use Rattle.table.specs.Refusals.{most}
use Rattle.plan.specs.declared.Plan.{Plan}
use Rattle.plan.specs.Plan.{most_on, width, capacity}

-- n, k and the columns in their limits, scale and coordinates reduced
pub record Sound (plan : Plan) : Type 0 where
  pub small : plan.n ≤ most
  pub fits : plan.k ≤ plan.n
  pub some_columns : 0 < plan.columns
  pub few_columns : plan.columns ≤ most_on plan.side
  pub scale_is : Reduced plan.scale
  pub coordinates_below : unreduced p plan.coordinates ≡ false

-- a sound plan takes a piece, whose words are the table's from word `taken` on, into out: an element for each column of each place, all
-- reduced
pub record Takes (plan : Plan) (taken : ℕ) (piece out : List ℕ) : Type 0 where
  pub sound : Sound plan
  pub within : taken + length piece ≤ capacity plan
  pub piece_below : unreduced p piece ≡ false
  pub room : length out ≡ 4 * width plan
  pub out_below : unreduced p out ≡ false

-- a sound plan's whole table, reduced, and an out of an element for each column of each place
pub record Fills (plan : Plan) (table out : List ℕ) : Type 0 where
  pub sound : Sound plan
  pub count : length table ≡ capacity plan
  pub below : unreduced p table ≡ false
  pub room : length out ≡ 4 * width plan
