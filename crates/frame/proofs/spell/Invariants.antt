-- The bytes before i are there. Assumes nothing.
use Rattle.frame.proofs.Spelling.{Spelt}
use Rattle.frame.proofs.spell.Given as goal

abbrev pub invariant-loop-i : goal.invariant-loop-i
invariant-loop-i l = Spelt l.line l.fn.bytes l.bytes l.i
