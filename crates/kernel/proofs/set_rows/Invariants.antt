-- The first i elements are set. Assumes nothing.
use Rattle.std.proofs.Common.{◌≤◌}
use Rattle.field.specs.Field.{field, base}
use Rattle.table.proofs.Writing.{Written}
use Rattle.lowering.specs.Lowering.{unit_inverse}
use Rattle.kernel.specs.Kernel.{rows_at}
use Rattle.kernel.proofs.set_rows.Given as goal

abbrev pub invariant-loop-i : goal.invariant-loop-i
invariant-loop-i g l =
    (l.i ≤ l.n) × Written (λ i. field.mul (rows_at g.row.N l.raised l.n l.words i) (base unit_inverse)) l.i l.fn.out l.out
