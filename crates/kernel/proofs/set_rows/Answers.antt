-- An element more, and what is multiplied by 2³² and divided by it. Assumes nothing.
use Rattle.std.proofs.Common.{◌≡◌, ◌+◌, ◌*◌, ◌<◌, length, get_or, ap, ◌∙◌, arith}
use Rattle.table.specs.Table.{entries, table_words}
use Rattle.table.proofs.Writing.{turn, finish}
use Rattle.kernel.proofs.Weighing.{raised_weights, row_there, lowered_again}
use Rattle.kernel.proofs.set_rows.Goals as goal

pub lowered-requires : goal.lowered-requires
lowered-requires g c = (
  omega (arith, c.requires.reduced.few),
  (
    raised_weights c.requires.reduced.few (omega arith) c.raised_apart-raised.ensures,
    row_there _ c.requires.groups.0 c.loop-i-test.true (omega arith),
  ),
)

pub loop-i-preserved : goal.loop-i-preserved
loop-i-preserved g c =
    let fits : 4 * c.loop-i.i + 3 < length c.args.out.now = omega (arith, c.requires.groups.1) in
    (omega arith, turn _ _ _ _ c.loop-i.invariant.1 fits c.lowered.ensures c.put.ensures)

pub returns : goal.returns
returns g c =
    let q : c.loop-i.i ≡ entries c.args.out.now = omega arith in
    finish _ _ (rw q at c.loop-i.invariant.1) c.requires.groups.1
    ∙ ap (table_words _)
    (λ j i. lowered_again _ _ _ (λ t. get_or c.args.words.now (t * entries c.args.out.now + i) 0) c.raised_apart-raised.ensures j)
