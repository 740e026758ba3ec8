-- Behind the tests the place's words are there. Assumes nothing.
use Rattle.std.proofs.Common.{arith}
use Rattle.ledger.specs.Session.{state}
use Rattle.ledger.proofs.Accepted.{readable}
use Rattle.session.proofs.read.Goals as goal

pub read-requires : goal.read-requires
read-requires c =
    let h = readable (state c.args.s c.args.out.now) c.args.place c.in_ok-test_read.ensures in
    (omega (arith, h.0), h.1)
