-- A place more. Assumes nothing.
use Rattle.std.proofs.Common.{ap, ◌∙◌, ◌≡◌, ◌+◌, ◌*◌, ◌/◌, ◌<◌, length, arith, refl}
use Rattle.field.specs.Field.{field, from_words}
use Rattle.field.proofs.Laws.{field_ring, read_as}
use Rattle.table.proofs.Gaining.{none, turn, unchanged}
use Rattle.multiplier.proofs.Multiplier.gain.Goals as goal

pub loop-i-init : goal.loop-i-init
loop-i-init c = none _ _ _

pub plus-sum-requires : goal.plus-sum-requires
plus-sum-requires c = (c.read.ensures.below, rw (c.get.ensures, unchanged c.loop-i.invariant) (c.requires.reduced _ c.loop-i-test.true))

pub loop-i-preserved : goal.loop-i-preserved
loop-i-preserved c =
    let r = from_words c.args.self.r in
    let fits : 4 * (c.args.from + c.loop-i.i) + 3 < length c.args.out.now = omega (arith, c.requires.reaches.fits) in
    turn _ _ _ _ _ c.loop-i.invariant fits _ refl _ _ (ap from_words c.get.ensures)
    (ap (λ x. field.mul x r) (read_as _ c.read.ensures) ∙ field_ring.mul_comm _ r)
    c.plus-sum.ensures c.put.ensures

pub returns : goal.returns
returns c =
    let q : c.loop-i.i ≡ length c.args.rows.now / 4 = omega arith in
    rw q at c.loop-i.invariant
