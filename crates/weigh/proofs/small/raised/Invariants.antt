-- The loop of `small::raised`.
use Rattle.table.proofs.Writing.{Written}
use Rattle.weigh.proofs.FewVariables.{raised_at}
use Rattle.weigh.proofs.small.raised.Given as goal

abbrev pub invariant-loop-j : goal.invariant-loop-j
invariant-loop-j l = Written (raised_at l.point.words.now) l.j l.initial.out l.out
