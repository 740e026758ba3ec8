-- The words of the halves, the first `cut` of them in the low one. Assumes nothing.
use Rattle.weigh.proofs.PieceHalves.{low_below, high_below, low_fits, high_fits, low_is, high_is}
use Rattle.weigh.proofs.blocks.Piece.halves.Goals as goal

pub invariant_of-low : goal.invariant_of-low
invariant_of-low c = record { below = low_below c.args.self _ }

pub invariant_of-high : goal.invariant_of-high
invariant_of-high c = record { below = high_below c.args.self _ }

pub returns : goal.returns
returns c =
    let s = c.min-from.ensures in
    let n = c.min-cut.ensures in
    record {
      low_fits = low_fits c.args.self _ s n;
      high_fits = high_fits c.args.self _ s n;
      low_is = low_is c.args.self _ s n;
      high_is = high_is c.args.self _ s n;
    }
