-- The room of the block, by the count of variables. Assumes nothing.
use Rattle.std.proofs.Common.{refl, arith}
use Rattle.weigh.proofs.Filling.{served}
use Rattle.weigh.proofs.weigh.Goals as goal

pub weigh_by-requires : goal.weigh_by-requires
weigh_by-requires c = (c.requires, omega arith, served {n = 2} {words = 16} (omega arith) refl c.if-point-le-SMALL_BLOCK.true)

pub weigh_by-requires-then-point-le-SHORT_BLOCK : goal.weigh_by-requires-then-point-le-SHORT_BLOCK
weigh_by-requires-then-point-le-SHORT_BLOCK c =
    (c.requires, omega arith, served {n = 4} {words = 64} (omega arith) refl c.if-point-le-SHORT_BLOCK.true)

pub weigh_by-requires-then-point-lt-LARGE : goal.weigh_by-requires-then-point-lt-LARGE
weigh_by-requires-then-point-lt-LARGE c =
    (c.requires, omega (arith, c.min.ensures), served {n = 6} {words = 256} (omega arith) refl (omega (arith, c.min.ensures)))
