-- The rows of the first j fours are added. Assumes nothing.
use Rattle.std.proofs.Common.{◌*◌, ◌≤◌}
use Rattle.algebra.specs.Sum.{sum_to}
use Rattle.field.specs.Field.{field}
use Rattle.table.specs.Gained.{Gained}
use Rattle.kernel.specs.Kernel.{row_term}
use Rattle.scatter.proofs.by_table.Given as goal

abbrev pub invariant-loop-j : goal.invariant-loop-j
invariant-loop-j l = (l.j ≤ 8) × Gained 0 l.inner (λ i. sum_to field (4 * l.j) (row_term l.weights l.inner l.words i)) l.fn.out l.out
