-- The loop of `byte_fold::Rows::gather`. Assumes nothing.
use Rattle.std.proofs.Common.{◌+◌, ◌*◌, ◌≤◌, arith, length}
use Rattle.octets.specs.Octets.{words}
use Rattle.octets.proofs.Octets.{words_length}
use Rattle.byte_fold.proofs.Reading.{begins, lent, turn}
use Rattle.byte_fold.proofs.Rows.gather.Goals as goal

pub loop-r-init : goal.loop-r-init
loop-r-init c = begins c.args.self.now (words c.args.table.now) c.requires.some c.args.block.now

pub loop-r-preserved : goal.loop-r-preserved
loop-r-preserved c =
    let rows = c.args.self.now in
    let there : rows.start + c.loop-r.r * rows.inner + rows.places ≤ length (words c.args.table.now) =
    omega (arith, c.requires.there c.loop-r.r c.loop-r-test.true, words_length c.args.table.now) in
    turn rows (words c.args.table.now) c.requires.some c.loop-r.invariant c.loop-r-test.true there c.decode.ensures
    (lent rows (words c.args.table.now) c.requires.some c.loop-r.invariant c.loop-r-test.true there)
