-- What the tests say of the operands; with no scalars nothing is tested. Assumes nothing.
use mathlib.Core.Path.{◌≡◌, sym, ◌∙◌}
use mathlib.Core.Bool.{false}
use lib.Dec.{eqb}
use lib.ListN.{length}
use Rattle.table.proofs.Gaining.{gained_table}
use Rattle.table.proofs.Says.{accepted, says}
use Rattle.eq_batch.specs.Batch.{batch_answer, add_out}
use Rattle.eq_batch.proofs.Rooms.{room_words}
use Rattle.eq_batch.proofs.eval_eq_batch_add.Goals as goal

pub add_points-requires : goal.add_points-requires
add_points-requires c =
    let h = accepted _ tt c.in_ok-test_batch.ensures in
    search (says, room_words)

pub returns-clause-out_after : goal.returns-clause-out_after
unfolding batch_answer add_out
returns-clause-out_after c =
    let some : eqb (length c.args.scalars.now) 0 ≡ false = sym c.is_empty.ensures ∙ c.if-is_empty.false in
    let h = accepted _ tt c.in_ok-test_batch.ensures in
    rw (some, ← c.in_ok-test_batch.ensures) (gained_table _ _ _ _ c.add_points.ensures (search says))
