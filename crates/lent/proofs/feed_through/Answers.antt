-- Refused, the session is what it was. Assumes nothing.
use Rattle.std.proofs.Common.{arith}
use Rattle.lent.proofs.Fields.{feed_unstored}
use Rattle.lent.proofs.feed_through.Goals as goal

pub returns-in_err-feed : goal.returns-in_err-feed
returns-in_err-feed c =
    let e = c.in_err-feed.ensures in
    grind (arith, feed_unstored c.args.s c.feed.new.s c.args.out.now c.feed.new.out c.in_err-feed.field-0.0 c.args.piece.now e)
