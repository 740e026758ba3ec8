-- Each turn writes a coordinate. Assumes nothing.
use Rattle.std.proofs.Common.{◌≡◌, arith}
use Rattle.field.proofs.Laws.{read_as}
use Rattle.table.proofs.Writing.{turn}
use Rattle.weigh.proofs.FewVariables.{all_raised}
use Rattle.weigh.proofs.small.raised.Goals as goal

pub loop-j-preserved : goal.loop-j-preserved
loop-j-preserved c =
    turn _ _ _ _ c.loop-j.invariant (omega arith) (rw (read_as _ c.read-r.ensures) at c.mul_base.ensures) c.put.ensures

pub returns : goal.returns
returns c = let q : c.loop-j.j ≡ c.args.point.count = omega arith in all_raised (omega arith) (rw q at c.loop-j.invariant)
