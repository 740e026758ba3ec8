-- What the tests say of the point. Assumes nothing.
use Rattle.table.proofs.Says.{accepted}
use Rattle.point.proofs.Coordinates.{point-says}
use Rattle.point.proofs.equality.equality_at_vertex.Goals as goal

pub of-requires : goal.of-requires
of-requires c =
    let h = accepted _ tt c.in_ok-test_vertex.ensures in
    search point-says
