-- `fixing::sum_halves`'s loop: the entries before this part are summed.
use Rattle.std.proofs.Common.{◌-◌}
use Rattle.fixing.proofs.Summing.{Summing}
use Rattle.fixing.proofs.sum_halves.Given as goal

abbrev pub invariant-loop-at : goal.invariant-loop-at
invariant-loop-at l = Summing l.h l.at l.fn.entries l.entries

abbrev pub decreases-loop-at : goal.decreases-loop-at
decreases-loop-at l = l.h - l.at
