-- The rest of the block is still to be fed. Assumes nothing.
use Rattle.std.proofs.Common.{length}
use Rattle.program.proofs.Cutting.{Cut}
use Rattle.program.proofs.Program.feed.Given as goal

abbrev pub invariant-loop-rest : goal.invariant-loop-rest
invariant-loop-rest l = Cut l.fn.self.fed.feeding l.block l.self.fed l.rest

abbrev pub decreases-loop-rest : goal.decreases-loop-rest
decreases-loop-rest l = length l.rest
