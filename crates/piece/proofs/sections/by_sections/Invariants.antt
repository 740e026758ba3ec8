-- The sections before j stand in out. Assumes nothing.
use Rattle.std.proofs.Common.{◌*◌}
use Rattle.piece.proofs.BySection.{Joined}
use Rattle.piece.proofs.sections.by_sections.Given as goal

abbrev pub invariant-loop-j : goal.invariant-loop-j
invariant-loop-j l = Joined l.plan l.table (l.places * l.j) l.fn.out l.out
