-- The coordinates that are left. Assumes nothing.
use Rattle.scatter.proofs.+scatter.Given as goal

abbrev pub decreases-scatter : goal.decreases-scatter
decreases-scatter l = l.rest.count
