-- At most four words of one block. Assumes nothing.
use Rattle.std.proofs.Common.{rules}
use Rattle.weigh.proofs.WordParts.{weights_there, dots, few_dotted}
use Rattle.weigh.proofs.blocks.SplitPoint.part.Goals as goal

pub weights-requires : goal.weights-requires
weights-requires g c = (search rules, weights_there c.args.self.now c.args.piece c.requires c.if-self-eq0.true)

pub dot_few-requires : goal.dot_few-requires
dot_few-requires g c = (rw c.weights.ensures (dots c.args.self.now c.args.piece c.requires c.if-self-eq0.true), c.if-piece-le4.true)

pub returns-then-piece-le4 : goal.returns-then-piece-le4
returns-then-piece-le4 g c = few_dotted c.args.self.now c.args.piece c.requires c.if-self-eq0.true (rw c.weights.ensures at c.dot_few.ensures)
