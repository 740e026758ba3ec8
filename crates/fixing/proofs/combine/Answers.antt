-- `fixing::combine` meets its contract: the pair that a turn reads is at or past the entry that it writes. Assumes nothing.
use Rattle.std.proofs.Common.{arith, rules}
use Rattle.fixing.proofs.Combining.{reads, turn}
use Rattle.fixing.proofs.combine.Goals as goal

pub make-made-requires : goal.make-made-requires
make-made-requires g c =
    let t = c.requires.paired_at c.loop-i.i (omega arith) (omega arith) _ c.pair-first.ensures in
    rw (c.get.ensures, c.get-in-loop-i.ensures) (reads c.loop-i.invariant t)

pub loop-i-preserved : goal.loop-i-preserved
loop-i-preserved g c =
    let t = c.requires.paired_at c.loop-i.i (omega arith) (omega arith) _ c.pair-first.ensures in
    turn c.loop-i.invariant t (omega arith) (omega (arith, c.requires.room)) c.pair-first.ensures
    (rw (← c.get.ensures, ← c.get-in-loop-i.ensures) c.make-made.ensures) (search rules) c.put.ensures
