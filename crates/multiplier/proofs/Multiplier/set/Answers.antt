-- A place more. Assumes nothing.
use Rattle.std.proofs.Common.{◌≡◌, ◌+◌, ◌*◌, ◌/◌, ◌<◌, length, arith}
use Rattle.multiplier.proofs.Setting.{by_row, nothing, turn}
use Rattle.multiplier.proofs.Multiplier.set.Goals as goal

pub loop-i-init : goal.loop-i-init
loop-i-init c = nothing _ _ _

pub loop-i-preserved : goal.loop-i-preserved
loop-i-preserved c =
    let fits : 4 * (c.args.from + c.loop-i.i) + 3 < length c.args.out.now = omega (arith, c.requires.fits) in
    turn _ _ _ _ _ c.loop-i.invariant fits (by_row _ c.read.ensures c.times.ensures) c.put.ensures

pub returns : goal.returns
returns c =
    let q : c.loop-i.i ≡ length c.args.rows.now / 4 = omega arith in
    rw q at c.loop-i.invariant
