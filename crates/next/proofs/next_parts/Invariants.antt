-- carry, done and omega are those of the pairs from j on: `Nexting`. Assumes nothing.
use Rattle.next.proofs.Pairs.{Nexting}
use Rattle.next.proofs.next_parts.Given as goal

abbrev pub invariant-loop-j : goal.invariant-loop-j
invariant-loop-j l = Nexting l.pair.point.words.now l.pair.other.words.now l.pair.point.count l.j l.carry l.done l.omega
