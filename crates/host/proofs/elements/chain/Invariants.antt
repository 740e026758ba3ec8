-- After so many products. Assumes nothing.
use Rattle.host.proofs.Chaining.{Chaining}
use Rattle.host.proofs.elements.chain.Given as goal

abbrev pub invariant-loop : goal.invariant-loop
invariant-loop l = Chaining l.fn.x l.y l.times l.counter l.product
