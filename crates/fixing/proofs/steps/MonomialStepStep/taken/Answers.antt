-- `taken` of `MonomialStep` meets its contract: the second as it is. Assumes nothing.
use Rattle.std.proofs.Common.{rules}
use Rattle.field.proofs.Laws.{holds_again}
use Rattle.fixing.proofs.steps.MonomialStepStep.taken.Goals as goal

pub returns : goal.returns
returns c = holds_again _ (search rules) c.requires.1
