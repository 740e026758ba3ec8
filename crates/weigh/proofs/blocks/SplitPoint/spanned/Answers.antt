-- The part has no more rows than the table. Assumes nothing.
use Rattle.std.proofs.Common.{arith}
use lib.Pow.{pow_mono}
use Rattle.weigh.proofs.blocks.SplitPoint.spanned.Goals as goal

pub crosses-requires : goal.crosses-requires
crosses-requires g c = (omega (arith, c.args.self.now.summed.few), omega (arith, pow_mono c.args.self.now.summed.few))
