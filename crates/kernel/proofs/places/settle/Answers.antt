-- A place more. Assumes nothing.
use Rattle.std.proofs.Common.{◌+◌, ◌*◌, ◌<◌, length, refl, ap, arith}
use Rattle.field.specs.Field.{from_words}
use Rattle.field.proofs.Laws.{read_as}
use Rattle.table.proofs.Gaining.{turn}
use Rattle.table.proofs.Tests.{reduced_at}
use Rattle.kernel.proofs.places.settle.Goals as goal

pub gained-requires : goal.gained-requires
gained-requires c = (rw c.get.ensures (reduced_at _ (c.loop-i.invariant.1.below c.requires.below) _), c.lowered-sum.ensures.below)

pub loop-i-preserved : goal.loop-i-preserved
loop-i-preserved c =
    let fits : 4 * (c.args.from + c.loop-i.i) + 3 < length c.args.out.now = omega (arith, c.requires.there) in (
      omega arith,
      turn _ _ _ _ _ c.loop-i.invariant.1 fits _ refl _ _ (ap from_words c.get.ensures) (read_as _ c.lowered-sum.ensures)
          c.gained.ensures c.put.ensures,
    )
