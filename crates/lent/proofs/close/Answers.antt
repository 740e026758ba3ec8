-- Of the session that `session::close` gives only the mark is stored. Assumes nothing.
use Rattle.lent.proofs.Fields.{close_stored}
use Rattle.lent.proofs.close.Goals as goal

pub returns : goal.returns
returns c = close_stored c.args.s.now c.in_ok-closed.closed c.args.out.now c.args.out.now c.in_ok-closed.ensures
