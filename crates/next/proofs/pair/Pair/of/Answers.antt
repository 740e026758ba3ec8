-- What the tests say of both points. Assumes nothing.
use mathlib.Core.Path.{◌≡◌}
use Rattle.table.specs.Table.{entries}
use Rattle.table.proofs.Says.{accepted}
use Rattle.table.proofs.Tests.{same}
use Rattle.point.proofs.Coordinates.{point-says}
use Rattle.next.proofs.pair.Pair.of.Goals as goal

pub of-requires : goal.of-requires
of-requires c =
    let h = accepted _ tt c.in_ok-test.ensures in
    search point-says

pub of-requires-2 : goal.of-requires-2
of-requires-2 c =
    let h = accepted _ tt c.in_ok-test.ensures in
    search point-says

pub invariant_of-result : goal.invariant_of-result
invariant_of-result c =
    let h = accepted _ tt c.in_ok-test.ensures in
    let q : entries c.args.point.now ≡ entries c.args.other.now = search same in
    record { counts = rw (c.of.ensures.count, c.of-2.ensures.count) q }
