-- The bytes of the first i elements are written.
use Rattle.field.specs.Field.{field, base}
use Rattle.lowering.specs.Lowering.{unit_inverse}
use Rattle.kernel.specs.Kernel.{words_at}
use Rattle.byte_fold.proofs.Putting.{Put}
use Rattle.byte_fold.proofs.few.put_groups.Given as goal

abbrev pub invariant-loop-i : goal.invariant-loop-i
invariant-loop-i g l = Put (λ i. field.mul (words_at g.row.N l.raised l.table i) (base unit_inverse)) l.i l.fn.out l.out
