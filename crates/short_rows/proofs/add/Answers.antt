-- An element more. Assumes nothing.
use Rattle.std.proofs.Common.{◌+◌, ◌*◌, ◌<◌, length, arith}
use Rattle.field.proofs.Laws.{read_as}
use Rattle.table.proofs.Gaining.{turn}
use Rattle.short_rows.proofs.add.Goals as goal

pub loop-i-preserved : goal.loop-i-preserved
loop-i-preserved c =
    let fits : 4 * (0 + c.loop-i.i) + 3 < length c.args.out.now = omega arith in
    turn 0 c.loop-i.i _ _ _ c.loop-i.invariant fits c.loop-i.i (omega arith) _ _ (read_as _ c.read.ensures)
    (read_as _ c.read-in-loop-i.ensures) c.add-sum.ensures c.put.ensures
