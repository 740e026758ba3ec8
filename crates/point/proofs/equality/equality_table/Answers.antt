-- What the tests say of the point and of out, and the table of scale 1. Assumes nothing.
use mathlib.Core.Path.{◌∙◌}
use Rattle.table.proofs.Laws.{table_unscaled}
use Rattle.table.proofs.Outcomes.{accepted_leaves}
use Rattle.table.proofs.Says.{accepted}
use Rattle.point.specs.Point.{table_answer, equality_out}
use Rattle.point.proofs.Coordinates.{point-says}
use Rattle.point.proofs.equality.equality_table.Goals as goal

pub of-requires : goal.of-requires
unfolding table_answer
of-requires c =
    let h = accepted _ tt c.in_ok-test_table.ensures in
    search point-says

pub fill-requires : goal.fill-requires
unfolding table_answer
fill-requires c =
    let h = accepted _ tt c.in_ok-test_table.ensures in
    (c.one.ensures.below, rw (c.of.ensures.count) (search point-says))

pub returns-clause-out_after : goal.returns-clause-out_after
unfolding equality_out
returns-clause-out_after c =
    rw (accepted_leaves _ c.in_ok-test_table.ensures) (rw (c.of.ensures.count, c.of.ensures.words) at c.fill.ensures ∙ table_unscaled _ _ _ c.one.ensures)
