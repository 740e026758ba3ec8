-- The elements before i are moved. Assumes nothing.
use Rattle.poly.proofs.Shifting.{Shifting}
use Rattle.poly.proofs.shift.Given as goal

abbrev pub invariant-loop-i : goal.invariant-loop-i
invariant-loop-i l = Shifting l.i l.fn.out l.out l.before
