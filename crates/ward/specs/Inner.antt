-- What the inner functions take and give. No operation that users call cites it. Assumes nothing.
use Rattle.std.specs.Prelude.{◌≡◌, ℕ, ◌+◌, ◌*◌, ◌^◌, List, ◌++◌, length, drop}
use Rattle.octets.specs.Octets.{words}
use Rattle.field.specs.Field.{Reduced}
use Rattle.field.specs.declared.Element.{Element}
use Rattle.table.specs.Refusals.{Test, verdict}
use Rattle.table.specs.Inner.{entry_tests}
use Rattle.point.specs.declared.Point.{Point}
use Rattle.work.specs.Work.{first, others}
use Rattle.split_tests.specs.SplitTests.{sized_fold_tests}
use Rattle.ward.specs.declared.shifted.Fold.{Fold}
use Rattle.ward.specs.Ward.{fold_splits, fold_answer}

-- the fold's tests of sizes: 1, 2, 3
abbrev pub size_tests : Fold → List ℕ → List ℕ → List Test
size_tests fold work out =
    fold_splits fold.table.now fold.point.now work out ++ entry_tests (length (words fold.table.now)) (words fold.point.now)

-- and the others: 4, 5
abbrev pub other_tests : Fold → List ℕ → List ℕ → List Test
other_tests fold work out =
    drop 3 (sized_fold_tests (words fold.table.now) (words fold.point.now) fold.scale (words work) (words out))

-- the fold's tests of sizes hold of nothing
pub record Sized (fold : Fold) (work out : List ℕ) : Type 0 where
  pub accepted : 0 ≡ verdict (size_tests fold work out)

-- all the fold's tests hold of nothing
pub record Accepts (fold : Fold) (work out : List ℕ) : Type 0 where
  pub accepted : 0 ≡ fold_answer fold.table.now fold.point.now fold.scale work out

-- a scale, and the bytes of both tables of a point
pub record Tables (point : Point) (scale : Element) (work : List ℕ) : Type 0 where
  pub scale_is : Reduced scale
  pub room : length work ≡ 16 * (2 ^ first point.count + 2 ^ others point.count)
