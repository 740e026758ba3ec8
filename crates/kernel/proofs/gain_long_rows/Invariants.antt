-- The first y elements have gained. Assumes nothing.
use Rattle.std.proofs.Common.{◌≤◌}
use Rattle.field.specs.Field.{field, base}
use Rattle.table.specs.Gained.{Gained}
use Rattle.lowering.specs.Lowering.{unit_inverse}
use Rattle.kernel.specs.Kernel.{rows_at}
use Rattle.kernel.proofs.gain_long_rows.Given as goal

abbrev pub invariant-loop-y : goal.invariant-loop-y
invariant-loop-y g l =
    (l.y ≤ l.n) × Gained l.from l.y (λ y. field.mul (rows_at g.row.N l.raised l.n l.words y) (base unit_inverse)) l.fn.out l.out
