-- A place more. Assumes nothing.
use Rattle.std.proofs.Common.{ap, ◌≡◌, ◌+◌, ◌*◌, ◌/◌, ◌<◌, length, arith}
use native.Mathlib.Nat.{zero-add}
use Rattle.field.specs.Field.{from_words}
use Rattle.field.proofs.Laws.{read_as}
use Rattle.table.proofs.Gaining.{none, turn, unchanged}
use Rattle.eq_batch.proofs.add_table.Goals as goal

pub loop-i-init : goal.loop-i-init
loop-i-init c = none _ _ _

pub add-sum-requires : goal.add-sum-requires
add-sum-requires c =
    let same = rw zero-add at (unchanged c.loop-i.invariant) in
    (rw (c.get.ensures, same) (rw zero-add at (c.requires.1.reduced _ c.loop-i-test.true)), c.read.ensures.below)

pub loop-i-preserved : goal.loop-i-preserved
loop-i-preserved c =
    let fits : 4 * (0 + c.loop-i.i) + 3 < length c.args.out.now = omega (arith, c.requires.1.fits) in
    turn _ _ _ _ _ c.loop-i.invariant fits _ (omega arith) _ _ (ap from_words c.get.ensures) (read_as _ c.read.ensures)
    c.add-sum.ensures c.put.ensures

pub returns : goal.returns
returns c =
    let q : c.loop-i.i ≡ length c.args.rows.now / 4 = omega arith in
    rw q at c.loop-i.invariant
