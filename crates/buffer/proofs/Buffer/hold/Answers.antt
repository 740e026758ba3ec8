-- As many more as there is room for. Assumes nothing.
use Rattle.std.proofs.Common.{ap}
use Rattle.buffer.proofs.Holding.{held}
use Rattle.buffer.proofs.Buffer.hold.Goals as goal

pub returns : goal.returns
returns g c = held _ _ (ap (λ v. v.items) c.self.view_is) c.self.told c.self.invariant c.min-count.ensures c.extend.ensures
