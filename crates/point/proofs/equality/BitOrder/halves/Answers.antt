-- The coordinates of the high bits and of the low ones, by the bit order. Assumes nothing.
use Rattle.point.proofs.Halving.{halved_msb, halved_lsb}
use Rattle.point.proofs.equality.BitOrder.halves.Goals as goal

pub returns-in-Msb : goal.returns-in-Msb
returns-in-Msb c =
    rw c.in-Msb.is (halved_msb _ _ _ c.requires c.first.ensures.words c.first.ensures.count c.after.ensures.words c.after.ensures.count)

pub returns-in-Lsb : goal.returns-in-Lsb
returns-in-Lsb c =
    rw c.in-Lsb.is
    (halved_lsb _ _ _ c.requires c.after-in-Lsb.ensures.words c.after-in-Lsb.ensures.count c.first-in-Lsb.ensures.words c.first-in-Lsb.ensures.count)
