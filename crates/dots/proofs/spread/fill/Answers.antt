-- `spread::fill` meets its contract. Assumes nothing.
use Rattle.std.proofs.Common.{◌≡◌, arith}
use Rattle.dots.proofs.Spreading.{none, all}
use Rattle.dots.proofs.spread.fill.Goals as goal

pub loop-c-init : goal.loop-c-init
loop-c-init g c = none c.requires.1

pub returns : goal.returns
returns g c =
    let q : c.loop-c.c ≡ 4 = omega arith in
    all c.requires.0 (rw q at c.loop-c.invariant)
