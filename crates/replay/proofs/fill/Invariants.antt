-- What came is within the room. Assumes nothing.
use Rattle.std.proofs.Common.{length, ◌≤◌}
use Rattle.replay.proofs.fill.Given as goal

abbrev pub invariant-loop : goal.invariant-loop
invariant-loop g l = l.count ≤ length l.room
