-- An element more, and what is multiplied by 2³² and divided by it. Assumes nothing.
use Rattle.std.proofs.Common.{◌≡◌, ◌+◌, ◌*◌, ◌<◌, length, get_or, refl, ap, arith}
use Rattle.field.specs.Field.{from_words}
use Rattle.field.proofs.Laws.{read_as}
use Rattle.table.proofs.Gaining.{turn, gained_as}
use Rattle.table.proofs.Tests.{reduced_at}
use Rattle.kernel.proofs.Weighing.{raised_weights, row_there, lowered_again}
use Rattle.kernel.proofs.gain_long_rows.Goals as goal

pub lowered-sum-requires : goal.lowered-sum-requires
lowered-sum-requires g c = (
  omega (arith, c.requires.reduced.few),
  (
    raised_weights c.requires.reduced.few (omega arith) c.raised-raised.ensures,
    row_there _ c.requires.rows c.loop-y-test.true (omega arith),
  ),
)

pub gained-requires : goal.gained-requires
gained-requires g c = (rw c.get.ensures (reduced_at _ (c.loop-y.invariant.1.below c.requires.below) _), c.lowered-sum.ensures.below)

pub loop-y-preserved : goal.loop-y-preserved
loop-y-preserved g c =
    let fits : 4 * (c.args.from + c.loop-y.y) + 3 < length c.args.out.now = omega (arith, c.requires.rows.room) in (
      omega arith,
      turn _ _ _ _ _ c.loop-y.invariant.1 fits _ refl _ _
          (ap from_words c.get.ensures) (read_as _ c.lowered-sum.ensures) c.gained.ensures c.put.ensures,
    )

pub returns : goal.returns
returns g c =
    let q : c.loop-y.y ≡ c.args.n = omega arith in
    gained_as _ (rw q at c.loop-y.invariant.1)
    (λ y h. lowered_again _ _ _ (λ t. get_or c.args.words.now (t * c.args.n + y) 0) c.raised-raised.ensures)
