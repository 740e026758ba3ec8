-- What the tests say of the operands; with no scalars nothing is tested. Assumes nothing.
use mathlib.Core.Path.{◌≡◌, refl, sym, ◌∙◌}
use mathlib.Core.Bool.{false}
use Prim.Native.Nat.{◌*◌, ◌^◌}
use lib.ListN.{length}
use lib.Dec.{eqb}
use Rattle.table.proofs.Gaining.{zeros_table}
use Rattle.table.proofs.Says.{accepted, says}
use Rattle.eq_batch.specs.Batch.{batch_answer, set_out}
use Rattle.eq_batch.proofs.Rooms.{room_zeros}
use Rattle.eq_batch.proofs.eval_eq_batch.Goals as goal

pub add_points-requires : goal.add_points-requires
add_points-requires c =
    let h = accepted _ tt c.in_ok-test_batch.ensures in
    let size : length c.args.out.now ≡ 4 * 2 ^ c.args.n = search says in
    (search says, room_zeros _ _ size c.clear.ensures)

pub returns : goal.returns
unfolding batch_answer set_out
returns c =
    let some : eqb (length c.args.scalars.now) 0 ≡ false = sym c.is_empty.ensures ∙ c.if-is_empty.false in
    let h = accepted _ tt c.in_ok-test_batch.ensures in
    let size : length c.args.out.now ≡ 4 * 2 ^ c.args.n = search says in
    rw (some, ← c.in_ok-test_batch.ensures)
    (record { result_value = refl; out_after = zeros_table _ _ size c.clear.ensures _ _ c.add_points.ensures })
