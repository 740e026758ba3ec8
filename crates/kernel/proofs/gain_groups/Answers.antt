-- An element more. Assumes nothing.
use Rattle.std.proofs.Common.{◌≡◌, ◌+◌, ◌*◌, ◌<◌, length, refl, ap, arith}
use Rattle.field.specs.Field.{from_words}
use Rattle.table.proofs.Gaining.{turn}
use Rattle.kernel.proofs.Weighing.{place_there, weighed_place}
use Rattle.kernel.proofs.gain_groups.Goals as goal

pub step-sum-requires : goal.step-sum-requires
step-sum-requires g c =
    (omega (arith, c.requires.reduced.few), (c.requires.reduced, place_there _ c.requires.groups c.loop-i-test.true (omega arith)))

pub loop-i-preserved : goal.loop-i-preserved
loop-i-preserved g c =
    let fits : 4 * (c.args.from + c.loop-i.i) + 3 < length c.args.out.now = omega (arith, c.requires.groups.room) in (
      omega arith,
      turn _ _ _ _ _ c.loop-i.invariant.1 fits _ refl _ _ (ap from_words c.get.ensures) (weighed_place _ _ _ _) c.step-sum.ensures
          c.put.ensures,
    )

pub returns : goal.returns
returns g c =
    let q : c.loop-i.i ≡ c.args.n = omega arith in
    rw q at c.loop-i.invariant.1
