-- The digits of the words before i stand in front. Assumes nothing.
use Rattle.frame.proofs.Printing.{Printed}
use Rattle.frame.proofs.digits.Given as goal

abbrev pub invariant-loop-i : goal.invariant-loop-i
invariant-loop-i l = Printed l.ws l.fn.text l.text l.i
