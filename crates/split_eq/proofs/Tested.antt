-- What accepted tests say of the table, the point, the scale and the work buffer: `search` reads it off the tests that do not hold.
-- Assumes nothing.
use mathlib.Core.Path.{◌≡◌}
use mathlib.Core.Bool.{false}
use Prim.Native.Nat.{ℕ, ◌+◌, ◌^◌, ◌<◌}
use native.Mathlib.Omega.{arith}
use mathlib.Core.List.{List}
use lib.ListN.{length}
use Rattle.field.specs.Field.{Reduced}
use Rattle.field.specs.declared.Element.{Element}
use Rattle.table.specs.Table.{entries}
use Rattle.table.specs.Refusals.{verdict, splits}
use Rattle.table.proofs.Tests.{whole, same}
use Rattle.table.proofs.Says.{base_rows, ext_rows}
use Rattle.table.proofs.Verdicts.{clear}
use Rattle.point.specs.Coordinates.{Coordinates}
use Rattle.point.proofs.Coordinates.{coordinates}
use Rattle.weigh.specs.Entries.{WholeTable}
use Rattle.weigh.proofs.WordTables.{words_whole}
use Rattle.work.specs.Work.{first, others, work_differs}
use Rattle.work.specs.Inner.{BothTables, Open}
use Rattle.split_tests.specs.SplitTests.{base_answer, ext_answer, last_tests, accumulate_answer}

-- 1 and 4 do not hold: the work buffer has just both tables' words
pub sized : (work : List ℕ) (k : ℕ) → splits work ≡ false → work_differs work k ≡ false → BothTables k work
sized work k a b = record { size = omega (arith, whole work a, same (entries work) (2 ^ first k + 2 ^ others k) b) }

-- what the filling of the work buffer asks
abbrev pub Fillable : List ℕ → Element → List ℕ → Type 0
Fillable point scale work = (Coordinates (entries point) point × Reduced scale) × BothTables (entries point) work

module _ (point : List ℕ) (scale : Element) (work : List ℕ) where
  pub last_tested : 0 ≡ verdict (last_tests point scale work) → Fillable point scale work
  last_tested e = let h = clear _ tt e in search (coordinates, sized)

  pub base_tested : (table : List ℕ) → length table < 2 ^ 64 → 0 ≡ base_answer table point scale work
      → Fillable point scale work × WholeTable 1 (entries point) table
  unfolding base_answer
  base_tested table fits e = let h = clear _ tt e in search (coordinates, sized, base_rows, words_whole)

  pub ext_tested : (table : List ℕ) → length table < 2 ^ 64 → 0 ≡ ext_answer table point scale work
      → Fillable point scale work × WholeTable 4 (entries point) table
  unfolding ext_answer
  ext_tested table fits e = let h = clear _ tt e in search (coordinates, sized, ext_rows)

  pub accumulate_tested : (given : Element) (out : List ℕ) → length out < 2 ^ 64 → 0 ≡ accumulate_answer point scale given work out
      → Fillable point scale work × Reduced given × Open (entries point) out
  unfolding accumulate_answer
  accumulate_tested given out fits e = let h = clear _ tt e in search (coordinates, sized, ext_rows)
