-- An element more. Assumes nothing.
use Rattle.std.proofs.Common.{◌≡◌, arith}
use Rattle.short_rows.proofs.Joining.{element_joined}
use Rattle.short_rows.proofs.join_halves.Goals as goal

pub loop-i-preserved : goal.loop-i-preserved
loop-i-preserved c =
    element_joined _ c.loop-i.invariant c.loop-i-test.true c.requires.there c.read-low.ensures c.read-high.ensures c.sub.ensures
    c.plus.ensures c.put.ensures

pub returns : goal.returns
returns c =
    let q : c.loop-i.i ≡ c.args.half = omega arith in
    rw c.new-m.ensures at (rw q at c.loop-i.invariant)
