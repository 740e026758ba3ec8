-- `byte_fold::Section::add_blocks`: the first row, and block after block. Assumes nothing.
use Rattle.byte_fold.proofs.Adding.{none_added, first_block, first_added, block, turn}
use Rattle.byte_fold.proofs.Section.add_blocks.Goals as goal

pub add_block-requires-clause-portion : goal.add_block-requires-clause-portion
add_block-requires-clause-portion c = first_block c.args.self.now c.first_row-first.ensures

pub add_block-requires-clause-sums_value : goal.add_block-requires-clause-sums_value
add_block-requires-clause-sums_value c = none_added c.args.self.now c.clear.ensures c.requires

pub loop-at-init : goal.loop-at-init
loop-at-init c = first_added c.args.self.now c.first_row-first.ensures c.add_block.ensures

pub add_block-requires-in-loop-at-clause-portion : goal.add_block-requires-in-loop-at-clause-portion
add_block-requires-in-loop-at-clause-portion c = block c.args.self.now c.loop-at.invariant c.words-end.ensures c.loop-at-test.true c.min.ensures

pub loop-at-preserved : goal.loop-at-preserved
loop-at-preserved c =
    turn c.args.self.now c.loop-at.invariant c.words-end.ensures c.loop-at-test.true c.min.ensures c.add_block-in-loop-at.ensures
