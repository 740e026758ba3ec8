-- The measure of `SplitPoint::halves`: the count of high coordinates.
use Rattle.weigh.proofs.blocks.SplitPoint.+halves.Given as goal

abbrev pub decreases-halves : goal.decreases-halves
decreases-halves g l = l.self.now.high.count
