-- What the tests say of a fold. Assumes nothing.
use Rattle.std.proofs.Common.{arith}
use Rattle.split_eq.proofs.FoldOutcomes.{tested}
use Rattle.split_eq.proofs.fold.compress.Goals as goal

pub of-requires : goal.of-requires
of-requires c = (tested _ _ _ _ _ c.in_ok-of_fold.ensures).both.0.0

pub fill-requires : goal.fill-requires
fill-requires c =
    let both = (tested _ _ _ _ _ c.in_ok-of_fold.ensures).both in
    rw c.of.ensures.count (both.0.1, both.1)

pub padded-requires : goal.padded-requires
padded-requires c = (tested _ _ _ _ _ c.in_ok-of_fold.ensures).given

pub fold-requires : goal.fold-requires
fold-requires c =
    rw (c.padded.ensures, c.variables.ensures)
    ((tested _ _ _ _ _ c.in_ok-of_fold.ensures).fills (omega arith) _ _)
