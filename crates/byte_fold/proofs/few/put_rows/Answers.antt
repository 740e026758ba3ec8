-- The bytes of an element more. Assumes nothing.
use Rattle.std.proofs.Common.{◌<◌, arith}
use Rattle.octets.specs.Octets.{words}
use Rattle.table.specs.Table.{entries}
use Rattle.kernel.proofs.Weighing.{row_there}
use Rattle.byte_fold.proofs.Putting.{start, turn, finish, counted}
use Rattle.byte_fold.proofs.few.put_rows.Goals as goal

pub loop-i-init : goal.loop-i-init
loop-i-init g c = start _ c.args.out.now

pub lowered-value-requires : goal.lowered-value-requires
lowered-value-requires g c =
    let more : c.loop-i.i < entries (words c.args.out.now) = omega (arith, c.loop-i-test.true, counted c.args.out.now) in
    (omega (arith, c.requires.weights.few), (c.requires.weights, row_there _ c.requires.groups.0 more (omega (arith, counted c.args.out.now))))

pub loop-i-preserved : goal.loop-i-preserved
loop-i-preserved g c = turn _ _ c.loop-i.invariant c.loop-i-test.true c.lowered-value.ensures c.encode.ensures

pub returns : goal.returns
returns g c = rw (counted c.args.out.now) at (finish _ (entries (words c.args.out.now)) c.loop-i.invariant (omega arith) c.requires.groups.1)
