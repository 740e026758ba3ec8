-- The places before the part lack a row less than the others. Assumes nothing.
use Rattle.std.proofs.Common.{arith}
use Rattle.field.proofs.Laws.{read_as}
use Rattle.plan.proofs.Columns.{row_sizes}
use Rattle.padding.proofs.Missing.{unpadded, row_short}
use Rattle.padding.proofs.Repeating.{repeated}
use Rattle.padding.proofs.repeat_row.Goals as goal

pub width-inner-requires : goal.width-inner-requires
width-inner-requires c = row_sizes c.requires.0.sound

pub returns-then-taken-inner : goal.returns-then-taken-inner
returns-then-taken-inner c =
    let short = row_short c.args.plan c.args.taken c.requires.1 (rw c.width-inner.ensures at c.if-taken-inner.true) in
    unpadded c.args.plan c.args.taken c.args.last.now short c.requires.0.room c.requires.0.out_below

pub returns : goal.returns
returns c =
    repeated c.requires.0 c.width-inner.ensures c.requires.1 (omega arith)
    (rw (read_as _ c.tail.ensures, c.point-point.ensures.words, c.point-point.ensures.count) at c.mul.ensures) c.spread.ensures
    (rw (read_as _ c.tail-2.ensures, c.point-point.ensures.words, c.point-point.ensures.count) at c.mul-2.ensures) c.spread-2.ensures
