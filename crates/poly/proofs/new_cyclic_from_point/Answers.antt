-- What the tests say of the point and of out, and the weights, each a row further. Assumes nothing.
use Prim.Native.Nat.{◌*◌, ◌^◌}
use mathlib.Core.Path.{◌≡◌, refl}
use lib.ListN.{length}
use lib.Pow.{pow_pos}
use Rattle.field.proofs.Laws.{field_ring}
use Rattle.multilinear.specs.declared.Weight.TheVariants.{Cyclic}
use Rattle.multilinear.proofs.Own.{cyclic_beside}
use Rattle.table.specs.Table.{entries}
use Rattle.table.proofs.Laws.{elements_length}
use Rattle.table.proofs.Outcomes.{accepted_leaves}
use Rattle.table.proofs.Says.{accepted}
use Rattle.point.specs.Point.{table_answer}
use Rattle.point.proofs.Coordinates.{point-says}
use Rattle.poly.specs.Poly.{weights_out}
use Rattle.poly.proofs.Next.{weights_table}
use Rattle.poly.proofs.new_cyclic_from_point.Goals as goal

pub of-requires : goal.of-requires
unfolding table_answer
of-requires c =
    let h = accepted _ tt c.in_ok-test_table.ensures in
    search point-says

pub successors-requires : goal.successors-requires
unfolding table_answer
successors-requires c =
    let h = accepted _ tt c.in_ok-test_table.ensures in
    let l : length c.args.out.now ≡ 4 * 2 ^ entries c.args.point.now = search point-says in
    rw c.of.ensures.count
    (record { rows = l; own = pow_pos (entries c.args.point.now) })

pub returns-clause-out_after : goal.returns-clause-out_after
unfolding weights_out table_answer
returns-clause-out_after c =
    let h = accepted _ tt c.in_ok-test_table.ensures in
    rw (accepted_leaves _ c.in_ok-test_table.ensures, ← c.of.ensures.count, ← c.of.ensures.words)
    (weights_table Cyclic _ _ _ _ (elements_length _ _ _) (cyclic_beside field_ring _) refl c.successors.ensures)
