-- The first rows are read.
use Rattle.octets.specs.Octets.{words}
use Rattle.byte_fold.proofs.Reading.{Read}
use Rattle.byte_fold.proofs.Rows.gather.Given as goal

abbrev pub invariant-loop-r : goal.invariant-loop-r
invariant-loop-r l = Read l.self (words l.table) l.r l.fn.block l.block
