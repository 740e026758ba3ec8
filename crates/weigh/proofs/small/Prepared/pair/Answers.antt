-- Both entries, on the line. Assumes nothing.
use Rattle.weigh.proofs.FewVariables.{pair_joined}
use Rattle.weigh.proofs.small.Prepared.pair.Goals as goal

pub returns : goal.returns
returns g c = pair_joined c.args.self.point c.requires.0 _ c.read-at0.ensures c.read-at1.ensures c.line_at.ensures
