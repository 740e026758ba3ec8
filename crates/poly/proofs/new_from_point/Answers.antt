-- What the tests say of the point and of out. Assumes nothing.
use Rattle.table.proofs.Outcomes.{accepted_leaves}
use Rattle.table.proofs.Says.{accepted}
use Rattle.point.proofs.Coordinates.{point-says}
use Rattle.poly.specs.Poly.{new_answer, new_out}
use Rattle.poly.proofs.new_from_point.Goals as goal

pub of-requires : goal.of-requires
unfolding new_answer
of-requires c =
    let h = accepted _ tt c.in_ok-test_scaled.ensures in
    search point-says

pub fill-requires : goal.fill-requires
unfolding new_answer
fill-requires c =
    let h = accepted _ tt c.in_ok-test_scaled.ensures in
    rw (c.of.ensures.count) (search point-says)

pub returns-clause-out_after : goal.returns-clause-out_after
unfolding new_out
returns-clause-out_after c =
    rw (accepted_leaves _ c.in_ok-test_scaled.ensures) (rw (c.of.ensures.count, c.of.ensures.words) at c.fill.ensures)
