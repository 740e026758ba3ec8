-- The loop of `dots::dot_ext`.
use Rattle.table.specs.Table.{element_at}
use Rattle.dots.proofs.Pairing.{Paired}
use Rattle.dots.proofs.dot_ext.Given as goal

abbrev pub invariant-loop-y : goal.invariant-loop-y
invariant-loop-y l = Paired (element_at l.weights) (element_at l.entries) l.y l.sums
