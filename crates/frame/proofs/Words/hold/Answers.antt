-- As many more as there is room for, as `Buffer::hold`. Assumes nothing.
use Rattle.std.proofs.Common.{◌≤◌, arith}
use Rattle.buffer.proofs.Holding.{held}
use Rattle.frame.proofs.Words.hold.Goals as goal

pub returns : goal.returns
returns c =
    let few : c.self.inside.count ≤ 16 = omega (arith, c.self.told, c.self.invariant.few) in
    held c.self.inside.room _ c.self.view_is c.self.told few c.min-count.ensures c.extend.ensures
