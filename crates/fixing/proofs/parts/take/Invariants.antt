-- `fixing::parts::take`'s loop: the elements before element i are taken.
use Rattle.std.proofs.Common.{◌+◌}
use Rattle.fixing.specs.Inner.{Made, taken_at}
use Rattle.fixing.proofs.parts.take.Given as goal

abbrev pub invariant-loop-i : goal.invariant-loop-i
invariant-loop-i g l = Made (λ y. taken_at g.S.Step.rule l.h l.entries (l.from + y)) 0 l.i l.fn.room l.room
