-- One block, or the values of the halves, on the line. Assumes nothing.
use Rattle.std.proofs.Common.{rules, refl}
use native.Mathlib.Nat.{pos_of_ne-zero}
use Rattle.weigh.proofs.ElementParts.{pairs, paired, elements_joined}
use Rattle.weigh.proofs.blocks.SplitPoint.+halves_ext.Goals as goal

pub dot_ext-requires : goal.dot_ext-requires
dot_ext-requires g t c = pairs c.args.self.now c.requires c.if-self-eq0.true

pub halved_ext-requires : goal.halved_ext-requires
halved_ext-requires g t c = (search rules, (c.requires, pos_of_ne-zero c.if-self-eq0.false))

pub returns-then-self-eq0 : goal.returns-then-self-eq0
returns-then-self-eq0 g t c = paired c.args.self.now c.requires c.if-self-eq0.true c.dot_ext.ensures

pub returns-else-self-eq0 : goal.returns-else-self-eq0
returns-else-self-eq0 g t c =
    let h = c.halved_ext.ensures in
    elements_joined c.args.self.now c.requires c.if-self-eq0.false h.after refl (rw h.low_is at c.halves_ext-at0.ensures)
    (rw h.high_is at c.halves_ext-at1.ensures) c.read.ensures c.line.ensures
