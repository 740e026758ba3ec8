-- What an accepted list of tests says of a fold. Assumes nothing.
use mathlib.Core.Path.{◌≡◌, refl}
use mathlib.Core.Bool.{false}
use Prim.Native.Nat.{ℕ, ◌-◌, ◌*◌, ◌^◌, ◌≤◌, ◌<◌}
use native.Mathlib.Omega.{arith}
use mathlib.Core.List.{List, ◌++◌}
use lib.ListN.{length, replicate}
use borrow.Author.Tests.{ltb-false}
use Rattle.algebra.specs.Words.{unreduced}
use Rattle.algebra.proofs.Words.{unreduced_append, unreduced_zeros}
use Rattle.multilinear.specs.declared.Side.{Side}
use Rattle.multilinear.specs.declared.Weight.{Weight}
use Rattle.field.specs.Field.{p, p_pos, Reduced}
use Rattle.field.specs.declared.Element.{Element}
use Rattle.table.specs.Table.{entries}
use Rattle.table.specs.Refusals.{variables, most, splits, too_many}
use Rattle.table.proofs.Powers.{power_of}
use Rattle.table.proofs.Tests.{whole, same}
use Rattle.table.proofs.Says.{room}
use Rattle.table.proofs.Verdicts.{clear}
use Rattle.point.proofs.Coordinates.{coordinates}
use Rattle.plan.specs.Plan.{plan_of}
use Rattle.plan.specs.Sound.{Fills}
use Rattle.plan.proofs.OneColumn.{one_fills}
use Rattle.split_tests.specs.SplitTests.{fold_answer, remains}
use Rattle.split_eq.specs.Split.{fold_plan}
use Rattle.split_eq.proofs.Tested.{Fillable, sized}

-- zeros behind the coordinates
padded : (point : List ℕ) (n : ℕ) → unreduced p point ≡ false → unreduced p (point ++ replicate n 0) ≡ false
padded point n h = unreduced_append p point (replicate n 0) h (unreduced_zeros p p_pos n)

-- the coordinates have room in a plan
fits_plan : (point : List ℕ) → splits point ≡ false → too_many point ≡ false → length point ≤ 4 * most
fits_plan point a b = omega (arith, whole point a, ltb-false most (entries point) b)

-- the plan has one column
one_fold : (n k : ℕ) (side : Side) (weight : Weight) (scale : Element) (point table out : List ℕ) → n ≤ most → k ≤ n → Reduced scale
    → unreduced p (point ++ replicate (4 * most - length point) 0) ≡ false → length table ≡ 2 ^ n → unreduced p table ≡ false
    → length out ≡ 4 * 2 ^ (n - k) → Fills (plan_of n k 1 side weight scale point) table out
one_fold n k side weight scale point table out a b c d e f g = one_fills (plan_of n k 1 side weight scale point) refl a b c d e f g

module _ (table point : List ℕ) (scale : Element) (work out : List ℕ) where
  pub record Tested : Type 0 where
    pub both : Fillable point scale work
    pub given : length point ≤ 4 * most
    pub few : entries point ≤ variables (length table)
    pub rows : entries out ≡ 2 ^ remains table point
    pub fills : length table < 2 ^ 64 → (side : Side) (weight : Weight) → Fills (fold_plan side weight table point scale) table out

  pub tested : 0 ≡ fold_answer table point scale work out → Tested
  unfolding fold_answer
  tested e = let h = clear _ tt e in search (coordinates, sized, fits_plan, same, ltb-false, padded, room, power_of, one_fold)
