-- `weigh::weigh_ext` meets its contract. Assumes nothing.
use Rattle.std.proofs.Common.{refl, arith}
use Rattle.weigh.proofs.Filling.{served}
use Rattle.weigh.proofs.weigh_ext.Goals as goal

pub weigh_ext_by-requires : goal.weigh_ext_by-requires
weigh_ext_by-requires c = (c.requires, omega (arith, c.min-low.ensures), served {n = 6} {words = 256} (omega arith) refl (omega (arith, c.min-low.ensures)))
