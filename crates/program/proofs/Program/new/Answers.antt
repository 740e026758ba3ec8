-- Nothing was read, and out is 0. Assumes nothing.
use Rattle.program.proofs.Starting.{goes_first, seen_first}
use Rattle.program.proofs.Program.new.Goals as goal

pub invariant_of-result : goal.invariant_of-result
invariant_of-result c = goes_first c.new.ensures c.new-2.ensures c.new-3.ensures

pub returns : goal.returns
returns c = seen_first c.new.ensures c.new-2.ensures c.new-3.ensures
