-- Refused, the session is what it was. Assumes nothing.
use Rattle.std.proofs.Common.{arith}
use Rattle.lent.proofs.Fields.{close_unstored}
use Rattle.lent.proofs.close_through.Goals as goal

pub returns-in_err-close : goal.returns-in_err-close
returns-in_err-close c =
    grind (arith, close_unstored c.args.s c.close.new.s c.args.out.now c.args.out.now c.in_err-close.field-0.0 c.in_err-close.ensures)
