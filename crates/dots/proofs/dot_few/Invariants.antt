-- The loop of `dots::dot_few`.
use Rattle.dots.proofs.FewWords.{Few}
use Rattle.dots.proofs.dot_few.Given as goal

abbrev pub invariant-loop-i : goal.invariant-loop-i
invariant-loop-i l = Few l.weights l.words l.i l.sums
