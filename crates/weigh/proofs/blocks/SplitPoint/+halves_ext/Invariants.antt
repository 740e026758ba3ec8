-- The measure of `SplitPoint::halves_ext`: the count of high coordinates.
use Rattle.weigh.proofs.blocks.SplitPoint.+halves_ext.Given as goal

abbrev pub decreases-halves_ext : goal.decreases-halves_ext
decreases-halves_ext g l = l.self.now.high.count
