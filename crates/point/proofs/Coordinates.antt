-- What tests that do not hold say of a point: `search point-says`, as table's Says has it. Assumes nothing.
use mathlib.Core.Path.{◌≡◌}
use mathlib.Core.Bool.{false, not}
use Prim.Native.Nat.{ℕ}
use native.Mathlib.Omega.{arith}
use mathlib.Core.List.{List}
use lib.Dec.{eqb}
use borrow.Author.Tests.{ltb-false}
use Rattle.algebra.specs.Words.{unreduced}
use Rattle.field.specs.Field.{p}
use Rattle.table.specs.Table.{entries}
use Rattle.table.specs.Refusals.{most, splits, too_many}
use Rattle.table.proofs.Says.{says}
use Rattle.table.proofs.Tests.{whole, same}
use Rattle.point.specs.Coordinates.{Coordinates}

-- 1, 3 and 5 do not hold
pub coordinates : (ps : List ℕ) → splits ps ≡ false → too_many ps ≡ false → unreduced p ps ≡ false → Coordinates (entries ps) ps
coordinates ps a b d = record { few = ltb-false most (entries ps) b; count = omega (arith, whole ps a); below = d }

-- nor 4: as many coordinates as another point has
pub coordinates_as : (k : ℕ) (ps : List ℕ) → splits ps ≡ false → too_many ps ≡ false → not (eqb k (entries ps)) ≡ false
    → unreduced p ps ≡ false → Coordinates k ps
coordinates_as k ps a b q d = rw (same k (entries ps) q) (coordinates ps a b d)

pub ruleset point-says = (says, coordinates, coordinates_as)
