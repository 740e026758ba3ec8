-- The first i places have gained. Assumes nothing.
use Rattle.std.proofs.Common.{◌≤◌}
use Rattle.kernel.specs.Inner.{GrownPlaces, four_products}
use Rattle.kernel.proofs.places.add_four.Given as goal

abbrev pub invariant-loop-i : goal.invariant-loop-i
invariant-loop-i l = (l.i ≤ l.count) × GrownPlaces l.i (four_products l.weights l.n l.words) l.fn.sums l.sums
