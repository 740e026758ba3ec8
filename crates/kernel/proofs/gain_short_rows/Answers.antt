-- An element more. Assumes nothing.
use Rattle.std.proofs.Common.{◌≡◌, ◌+◌, ◌*◌, ◌<◌, length, refl, ap, arith}
use Rattle.field.specs.Field.{from_words}
use Rattle.table.proofs.Gaining.{turn}
use Rattle.kernel.proofs.Weighing.{row_there}
use Rattle.kernel.proofs.gain_short_rows.Goals as goal

pub step-sum-requires : goal.step-sum-requires
step-sum-requires g c =
    (omega (arith, c.requires.reduced.few), (c.requires.reduced, row_there _ c.requires.rows c.loop-y-test.true (omega arith)))

pub loop-y-preserved : goal.loop-y-preserved
loop-y-preserved g c =
    let fits : 4 * (c.args.from + c.loop-y.y) + 3 < length c.args.out.now = omega (arith, c.requires.rows.room) in
    (omega arith, turn _ _ _ _ _ c.loop-y.invariant.1 fits _ refl _ _ (ap from_words c.get.ensures) refl c.step-sum.ensures c.put.ensures)

pub returns : goal.returns
returns g c =
    let q : c.loop-y.y ≡ c.args.n = omega arith in
    rw q at c.loop-y.invariant.1
