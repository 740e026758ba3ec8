-- Behind the tests the plan is sound. Assumes nothing.
use Rattle.std.proofs.Common.{arith}
use Rattle.ledger.specs.Session.{args, open_answer}
use Rattle.ledger.proofs.Accepted.{opened}
use Rattle.session.proofs.open.Goals as goal

pub padded-requires : goal.padded-requires
unfolding open_answer
padded-requires c =
    let a = c.args in
    let d = opened (args a.n a.columns a.side a.weight a.scale a.point.now) a.out.now c.in_ok-test_open.ensures in
    omega (arith, d.count, d.sound.small, d.sound.fits)
