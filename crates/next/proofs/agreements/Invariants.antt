-- The product is that of the pairs from j on: `Agreed`. Assumes nothing.
use Rattle.next.proofs.Pairs.{Agreed}
use Rattle.next.proofs.agreements.Given as goal

abbrev pub invariant-loop-j : goal.invariant-loop-j
invariant-loop-j l = Agreed l.pair.point.words.now l.pair.other.words.now l.pair.point.count l.j l.product
