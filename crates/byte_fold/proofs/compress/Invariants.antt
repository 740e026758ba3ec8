-- The sections before this one are folded.
use Rattle.std.proofs.Common.{◌*◌}
use Rattle.octets.specs.Octets.{words}
use Rattle.byte_fold.proofs.Sections.{Joined}
use Rattle.byte_fold.proofs.compress.Given as goal

abbrev pub invariant-loop-j : goal.invariant-loop-j
invariant-loop-j l = Joined l.plan (words l.table) (l.places * l.j) l.fn.out l.out
