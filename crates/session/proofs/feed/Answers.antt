-- Behind the tests the session takes the piece. Assumes nothing.
use Rattle.std.proofs.Common.{arith}
use Rattle.ledger.specs.Session.{state}
use Rattle.ledger.proofs.Accepted.{fed, few_taken}
use Rattle.session.proofs.feed.Goals as goal

pub add-requires : goal.add-requires
add-requires c = fed (state c.args.s c.args.out.now) c.args.piece.now c.in_ok-test_feed.ensures

pub overflow_add-result : goal.overflow_add-result
overflow_add-result c = omega (arith, few_taken (fed (state c.args.s c.args.out.now) c.args.piece.now c.in_ok-test_feed.ensures))
