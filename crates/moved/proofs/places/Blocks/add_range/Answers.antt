-- One place more. Assumes nothing.
use Rattle.std.proofs.Common.{arith}
use Rattle.moved.proofs.PlaceByPlace.{next, place_is}
use Rattle.moved.proofs.places.Blocks.add_range.Goals as goal

pub loop-i-preserved : goal.loop-i-preserved
loop-i-preserved g c =
    next c.loop-i.invariant c.loop-i-test.true (omega (arith, c.requires.0.room, c.requires.1.there, c.loop-i-test.true)) c.read.ensures
    c.part-sum.ensures
    (place_is c.args.self.now c.rows-rows.ensures c.skip_of-skip.ensures c.loop-i.i c.cut-words.result c.cut-words.ensures) c.add.ensures
    c.put.ensures
