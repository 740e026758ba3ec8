-- Whole, or what is there of the words. Assumes nothing.
use Rattle.std.proofs.Common.{arith}
use Rattle.table.proofs.Parts.{part_below}
use Rattle.moved.proofs.PlaceSums.{cut_fits, cut_each}
use Rattle.moved.proofs.Piece.cut.Goals as goal

pub invariant_of-result : goal.invariant_of-result
invariant_of-result c = record { below = part_below _ _ c.args.self.now.words.now c.args.self.now.below }

pub returns-then-stop-taken : goal.returns-then-stop-taken
returns-then-stop-taken c =
    let piece = c.args.self.now in
    record {
      fits = cut_fits piece c.requires.0 c.requires.1 (omega arith) (omega arith) (omega arith);
      each = cut_each piece c.requires.0 c.requires.1 (omega arith) (omega arith) (omega arith);
    }

pub invariant_of-result-2 : goal.invariant_of-result-2
invariant_of-result-2 c = record { below = part_below _ _ c.args.self.now.words.now c.args.self.now.below }

pub returns : goal.returns
returns c =
    let piece = c.args.self.now in
    record {
      fits = cut_fits piece c.requires.0 c.requires.1 c.before-a.ensures c.before-b.ensures c.saturating_sub.ensures;
      each = cut_each piece c.requires.0 c.requires.1 c.before-a.ensures c.before-b.ensures c.saturating_sub.ensures;
    }
