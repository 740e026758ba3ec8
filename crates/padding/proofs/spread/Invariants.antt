-- The first i places have gained: `Spread`. Assumes nothing.
use Rattle.padding.proofs.Spreading.{Spread}
use Rattle.padding.proofs.spread.Given as goal

abbrev pub invariant-loop-i : goal.invariant-loop-i
invariant-loop-i l = Spread l.from l.to l.last l.weight l.initial.out l.out l.i
