-- `fixing::parts::fix_parts`'s loop: the entries before this part are fixed.
use Rattle.std.proofs.Common.{◌≡◌, ◌-◌, ◌≤◌, length}
use Rattle.field.specs.Field.{from_words}
use Rattle.table.specs.Table.{element_at}
use Rattle.fixing.specs.Fixing.{fixed_at}
use Rattle.fixing.specs.Inner.{Made}
use Rattle.fixing.proofs.parts.fix_parts.Given as goal

abbrev pub invariant-loop-at : goal.invariant-loop-at
invariant-loop-at g l =
    Made (fixed_at g.S.Step.rule l.h (element_at l.fn.entries) (from_words l.m.r)) 0 l.at l.fn.entries l.entries
    × (l.at ≤ l.h) × (length l.room ≡ 128) × (length l.more ≡ 128)

abbrev pub decreases-loop-at : goal.decreases-loop-at
decreases-loop-at g l = l.h - l.at
