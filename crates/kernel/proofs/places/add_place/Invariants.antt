-- The first k coordinates have gained. Assumes nothing.
use Rattle.std.proofs.Common.{◌≤◌}
use Rattle.kernel.specs.Inner.{GrownPlace, word_at, products}
use Rattle.kernel.proofs.places.add_place.Given as goal

abbrev pub invariant-loop-k : goal.invariant-loop-k
invariant-loop-k l = (l.k ≤ 4) × GrownPlace l.k l.i (λ k. products l.weights k (word_at l.words l.at) 4) l.fn.sums l.sums
