-- The first i places have gained. Assumes nothing.
use Rattle.field.specs.Field.{field, from_words}
use Rattle.table.specs.Table.{element_at}
use Rattle.table.specs.Gained.{Gained}
use Rattle.multiplier.proofs.Multiplier.gain.Given as goal

abbrev pub invariant-loop-i : goal.invariant-loop-i
invariant-loop-i l = Gained l.from l.i (λ y. field.mul (from_words l.self.r) (element_at l.rows y)) l.fn.out l.out
