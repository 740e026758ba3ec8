-- What the tests say of the point and of the word. Assumes nothing.
use Rattle.table.proofs.Says.{accepted}
use Rattle.point.proofs.Coordinates.{point-says}
use Rattle.point.proofs.select.eval_select.Goals as goal

pub of-requires : goal.of-requires
of-requires c =
    let h = accepted _ tt c.in_ok-test_select.ensures in
    search point-says

pub selection-requires : goal.selection-requires
selection-requires c =
    let h = accepted _ tt c.in_ok-test_select.ensures in
    search point-says
