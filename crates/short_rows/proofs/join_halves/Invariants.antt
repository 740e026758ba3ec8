-- The first i elements are joined. Assumes nothing.
use Rattle.field.specs.Field.{from_words}
use Rattle.table.specs.Table.{element_at}
use Rattle.table.specs.Gained.{Gained}
use Rattle.short_rows.specs.ShortRows.{joined}
use Rattle.short_rows.proofs.join_halves.Given as goal

abbrev pub invariant-loop-i : goal.invariant-loop-i
invariant-loop-i l = Gained 0 l.i (joined (element_at l.fn.sums) l.half (from_words l.m.r)) l.fn.sums l.sums
