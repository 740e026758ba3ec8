-- The loop of `SplitPoint::spanned`. The measure is what is left of the high coordinates.
use Rattle.std.proofs.Common.{◌-◌, ◌≤◌}
use Rattle.weigh.proofs.blocks.SplitPoint.spanned.Given as goal

abbrev pub invariant-loop-own : goal.invariant-loop-own
invariant-loop-own g l = l.own ≤ l.self.high.count

abbrev pub decreases-loop-own : goal.decreases-loop-own
decreases-loop-own g l = l.self.high.count - l.own
