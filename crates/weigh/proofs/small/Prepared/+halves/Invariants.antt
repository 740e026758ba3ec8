-- The measure of `Prepared::halves`: the count of coordinates.
use Rattle.weigh.proofs.small.Prepared.+halves.Given as goal

abbrev pub decreases-halves : goal.decreases-halves
decreases-halves g l = l.self.now.point.count
