-- An element more. Assumes nothing.
use Rattle.std.proofs.Common.{◌≡◌, ◌+◌, ◌-◌, ◌*◌, ◌<◌, length, refl, ap, arith, rules}
use Rattle.field.specs.Field.{from_words}
use Rattle.table.proofs.Gaining.{turn}
use Rattle.kernel.proofs.Weighing.{word_there, one_weighed}
use Rattle.kernel.proofs.gain_row.Goals as goal

pub overflow_mul-word : goal.overflow_mul-word
overflow_mul-word c = let there = c.requires.row.there c.loop-i.i c.loop-i-test.true in omega (arith, there)

pub step-sum-requires : goal.step-sum-requires
step-sum-requires c = (omega arith, (search rules, word_there c.requires.row c.loop-i-test.true))

pub loop-i-preserved : goal.loop-i-preserved
loop-i-preserved c =
    let fits : 4 * (c.args.places.start + c.loop-i.i) + 3 < length c.args.out.now = omega (arith, c.requires.row.room) in (
      omega arith,
      turn _ _ _ _ _ c.loop-i.invariant.1 fits _ refl _ _ (ap from_words c.get.ensures) (one_weighed _ _ _) c.step-sum.ensures
          c.put.ensures,
    )

pub returns : goal.returns
returns c =
    let q : c.loop-i.i ≡ c.args.places.end - c.args.places.start = omega arith in
    rw q at c.loop-i.invariant.1
