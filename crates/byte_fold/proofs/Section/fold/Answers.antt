-- `byte_fold::Section::fold`: one block of words, or the sums at the front of their room. Assumes nothing.
use Rattle.std.proofs.Common.{arith}
use Rattle.std.proofs.Math.Seq.{length-take-le}
use Rattle.byte_fold.proofs.Adding.{all_block, sums_fit}
use Rattle.byte_fold.proofs.Section.fold.Goals as goal

pub slice_bounds-sums-end : goal.slice_bounds-sums-end
slice_bounds-sums-end c = sums_fit c.args.self.now c.places.ensures

pub gather-requires : goal.gather-requires
gather-requires c =
    let n = c.words-count.result in
    rw (length-take-le n c.args.room.now (omega (arith, c.if-count-le-BLOCK.true)))
    (all_block c.args.self.now c.words-count.ensures c.if-count-le-BLOCK.true)
