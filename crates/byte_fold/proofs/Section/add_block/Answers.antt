-- `byte_fold::Section::add_block`. Assumes nothing.
use Rattle.std.proofs.Common.{◌≡◌, ◌+◌, ◌-◌, arith}
use Rattle.std.proofs.Math.Seq.{length-take-le}
use Rattle.byte_fold.specs.Inner.{block_at}
use Rattle.byte_fold.proofs.Blocks.{takes, added}
use Rattle.byte_fold.proofs.Section.add_block.Goals as goal

pub add_by-requires : goal.add_by-requires
add_by-requires c =
    let n = c.args.block.end - c.args.block.start in
    let block : c.gather.new.block ≡ block_at c.args.self.now c.args.block.start n =
    rw (length-take-le n c.args.room.now (omega (arith, c.requires.portion.most_words))) at c.gather.ensures in
    (omega arith, (takes c.args.self.now c.requires.portion block c.requires.sums_value, c.requires.against))

pub returns : goal.returns
returns c =
    let n = c.args.block.end - c.args.block.start in
    let block : c.gather.new.block ≡ block_at c.args.self.now c.args.block.start n =
    rw (length-take-le n c.args.room.now (omega (arith, c.requires.portion.most_words))) at c.gather.ensures in
    let all : c.args.block.start + n ≡ c.args.block.end = omega arith in
    rw all at (added c.args.self.now c.requires.portion block c.requires.sums_value c.add_by.ensures)
