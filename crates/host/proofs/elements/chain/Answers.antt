-- One product more in each turn. Assumes nothing.
use Rattle.std.proofs.Common.{rules}
use Rattle.host.proofs.Chaining.{start}
use Rattle.host.proofs.elements.chain.Goals as goal

pub loop-init : goal.loop-init
loop-init c = start _ _ _ (search rules) c.requires.0
