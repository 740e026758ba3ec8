-- `dots::dot_ext` meets its contract. Assumes nothing.
use Rattle.std.proofs.Common.{◌≡◌, ◌/◌, length, arith}
use Rattle.dots.proofs.Pairing.{start, room, turn, finish}
use Rattle.dots.proofs.dot_ext.Goals as goal

pub loop-y-init : goal.loop-y-init
loop-y-init c = start _ _ c.none-sums.ensures

pub gain-more-requires : goal.gain-more-requires
gain-more-requires c = (room _ _ _ (omega arith) c.loop-y.invariant, c.read-x.ensures.below, c.read.ensures.below)

pub loop-y-preserved : goal.loop-y-preserved
loop-y-preserved c =
    turn _ _ _ c.loop-y.invariant c.read-x.ensures c.read.ensures c.gain-more.ensures

pub settle-requires : goal.settle-requires
settle-requires c = room _ _ _ (omega arith) c.loop-y.invariant

pub returns : goal.returns
returns c =
    let q : c.loop-y.y ≡ length c.args.entries.now / 4 = omega arith in
    rw c.settle.ensures (rw q at (finish _ _ _ c.loop-y.invariant))
