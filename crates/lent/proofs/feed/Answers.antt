-- Of the session that `session::feed` gives only the count is stored. Assumes nothing.
use Rattle.lent.proofs.Fields.{feed_stored}
use Rattle.lent.proofs.feed.Goals as goal

pub returns : goal.returns
returns c = feed_stored c.args.s.now c.in_ok-fed.fed c.args.out.now c.feed.new.out c.args.piece.now c.in_ok-fed.ensures
