-- The first i places are set. Assumes nothing.
use Rattle.field.specs.Field.{field, from_words}
use Rattle.table.specs.Table.{element_at}
use Rattle.multiplier.specs.Tables.{Becomes}
use Rattle.multiplier.proofs.Multiplier.set.Given as goal

abbrev pub invariant-loop-i : goal.invariant-loop-i
invariant-loop-i l = Becomes l.from l.i (λ y. field.mul (from_words l.self.r) (element_at l.rows y)) l.fn.out l.out
