-- The first i elements have gained. Assumes nothing.
use Rattle.std.proofs.Common.{◌≤◌}
use Rattle.table.specs.Gained.{Gained}
use Rattle.kernel.specs.Kernel.{words_at}
use Rattle.kernel.proofs.gain_groups.Given as goal

abbrev pub invariant-loop-i : goal.invariant-loop-i
invariant-loop-i g l = (l.i ≤ l.n) × Gained l.from l.i (words_at g.row.N l.weights l.words) l.fn.out l.out
