-- A block more, in front. Assumes nothing.
use Rattle.point.proofs.Spanning.{start, reaches, factor, turn, finish}
use Rattle.point.proofs.blocks.span.Goals as goal

pub loop-h-init : goal.loop-h-init
loop-h-init c = start _ _ _ c.requires

pub new-m-requires : goal.new-m-requires
new-m-requires c = rw c.get.ensures (factor _ _ _ c.requires _ _ c.loop-h.invariant c.loop-h-test.true)

pub set-requires : goal.set-requires
set-requires c = reaches _ _ _ c.requires _ _ c.loop-h.invariant c.loop-h-test.true

pub loop-h-preserved : goal.loop-h-preserved
loop-h-preserved c =
    turn _ _ _ c.requires _ _ c.loop-h.invariant c.loop-h-test.true _ c.get.ensures (rw c.new-m.ensures at c.set.ensures)

pub returns : goal.returns
returns c = finish _ _ _ _ _ c.loop-h.invariant c.loop-h-test.false
