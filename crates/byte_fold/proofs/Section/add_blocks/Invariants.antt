-- The blocks before this one are added.
use Rattle.byte_fold.proofs.Adding.{Adding}
use Rattle.byte_fold.proofs.Section.add_blocks.Given as goal

abbrev pub invariant-loop-at : goal.invariant-loop-at
invariant-loop-at l = Adding l.self l.at l.sums
