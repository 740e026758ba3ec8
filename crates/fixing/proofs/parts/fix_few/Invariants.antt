-- `fixing::parts::fix_few`'s loop: the entries before entry i are fixed.
use Rattle.field.specs.Field.{from_words}
use Rattle.table.specs.Table.{element_at}
use Rattle.fixing.specs.Fixing.{fixed_at}
use Rattle.fixing.specs.Inner.{Made}
use Rattle.fixing.proofs.parts.fix_few.Given as goal

abbrev pub invariant-loop-i : goal.invariant-loop-i
invariant-loop-i g l = Made (fixed_at g.S.Step.rule l.h (element_at l.fn.entries) (from_words l.m.r)) 0 l.i l.fn.entries l.entries
