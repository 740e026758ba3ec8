-- No words, one block, or the values of the halves, on the line. Assumes nothing.
use Rattle.std.proofs.Common.{rules, refl}
use native.Mathlib.Nat.{pos_of_ne-zero}
use Rattle.weigh.proofs.WordParts.{nothing, rows_there, dotted, words_joined}
use Rattle.weigh.proofs.blocks.SplitPoint.+halves.Goals as goal

pub dot-requires : goal.dot-requires
dot-requires g t c = (
  search rules,
  (rows_there c.args.self.now c.args.piece c.requires c.if-self-eq0.true, c.args.piece.below),
)

pub halved-requires : goal.halved-requires
halved-requires g t c = (search rules, (c.requires, pos_of_ne-zero c.if-self-eq0.false))

pub returns-then-piece-eq0 : goal.returns-then-piece-eq0
returns-then-piece-eq0 g t c = nothing c.args.self.now c.args.piece c.if-piece-eq0.true c.zero.ensures

pub returns-then-self-eq0 : goal.returns-then-self-eq0
returns-then-self-eq0 g t c = dotted c.args.self.now c.args.piece c.requires c.if-self-eq0.true c.dot.ensures

pub returns-else-self-eq0 : goal.returns-else-self-eq0
returns-else-self-eq0 g t c =
    words_joined c.args.self.now c.args.piece c.requires c.if-self-eq0.false c.halved.ensures.after refl c.halved.ensures.halves
    c.halves-at0.ensures c.halves-at1.ensures c.read.ensures c.line.ensures
