-- `fixing::parts::add`'s loop: i entries are sums.
use Rattle.std.proofs.Common.{◌+◌}
use Rattle.fixing.specs.Inner.{Made, sum_at}
use Rattle.fixing.proofs.parts.add.Given as goal

abbrev pub invariant-loop-i : goal.invariant-loop-i
invariant-loop-i g l = Made (sum_at g.S.Step.rule l.h l.fn.entries l.from l.more) l.from (l.from + l.i) l.fn.entries l.entries
