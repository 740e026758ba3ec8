-- No words, all high coordinates, or a row of the first of them. Assumes nothing.
use Rattle.weigh.proofs.WordParts.{nothing}
use Rattle.weigh.proofs.blocks.SplitPoint.trimmed.Goals as goal

pub returns-then-piece-eq0 : goal.returns-then-piece-eq0
returns-then-piece-eq0 g c = nothing c.args.self.now c.args.piece c.if-piece-eq0.true c.zero.ensures
