-- `fixing::combine`'s loop: the entries before entry i are made.
use Rattle.fixing.specs.Inner.{Combined}
use Rattle.fixing.proofs.combine.Given as goal

abbrev pub invariant-loop-i : goal.invariant-loop-i
invariant-loop-i g l = Combined (goal.P-post g l.pair) (goal.F-post g l.make) 0 l.i l.fn.entries l.entries
