-- Each turn moves an element. Assumes nothing.
use native.Mathlib.Omega.{arith}
use mathlib.Core.Path.{◌≡◌}
use Rattle.table.specs.Table.{entries}
use Rattle.poly.proofs.Shifting.{start, turn, moved, last}
use Rattle.poly.proofs.shift.Goals as goal

pub loop-i-init : goal.loop-i-init
loop-i-init c = start _ c.zero-before.ensures

pub loop-i-preserved : goal.loop-i-preserved
loop-i-preserved c = turn _ c.requires _ _ c.loop-i.invariant (omega arith) c.get-kept.ensures c.put.ensures

pub returns : goal.returns
returns c =
    let q : c.loop-i.i ≡ entries c.args.out.now = omega arith in
    let s = rw q at c.loop-i.invariant in
    record { last = last _ c.requires s; moved = moved _ c.requires s }
