-- Section after section. Assumes nothing.
use Rattle.std.proofs.Common.{arith}
use Rattle.plan.proofs.Columns.{few_words}
use Rattle.piece.proofs.BySection.{start, out_within, table_within, fills, turn, finish}
use Rattle.piece.proofs.sections.by_sections.Goals as goal

pub loop-j-init : goal.loop-j-init
loop-j-init c = start c.requires c.min-held.ensures c.rows-places.ensures c.rows-words.ensures c.rows-j-end.ensures

pub offset_bounds-table-a : goal.offset_bounds-table-a
offset_bounds-table-a c =
    omega (
      arith,
      table_within c.requires c.min-held.ensures c.rows-places.ensures c.rows-words.ensures c.rows-j-end.ensures c.loop-j-test.true,
      few_words c.requires.0.sound,
      c.requires.0.count,
    )

pub slice_bounds-fold_whole-end : goal.slice_bounds-fold_whole-end
slice_bounds-fold_whole-end c =
    omega (
      arith,
      table_within c.requires c.min-held.ensures c.rows-places.ensures c.rows-words.ensures c.rows-j-end.ensures c.loop-j-test.true,
    )

pub slice_bounds-fold_whole-end-in-loop-j : goal.slice_bounds-fold_whole-end-in-loop-j
slice_bounds-fold_whole-end-in-loop-j c =
    omega (
      arith,
      out_within c.requires c.min-held.ensures c.rows-places.ensures c.rows-words.ensures c.rows-j-end.ensures c.loop-j-test.true,
      c.loop-j.auto.out,
    )

pub fold_whole-requires : goal.fold_whole-requires
fold_whole-requires c =
    fills c.requires c.min-held.ensures c.rows-places.ensures c.rows-words.ensures c.rows-j-end.ensures c.loop-j-test.true
    c.section.ensures
    c.loop-j.invariant

pub loop-j-preserved : goal.loop-j-preserved
loop-j-preserved c =
    turn c.requires c.min-held.ensures c.rows-places.ensures c.rows-words.ensures c.rows-j-end.ensures c.loop-j-test.true
    c.section.ensures
    c.loop-j.invariant c.fold_whole.ensures

pub returns : goal.returns
returns c =
    finish c.requires c.min-held.ensures c.rows-places.ensures c.rows-words.ensures c.rows-j-end.ensures c.loop-j.invariant
    c.loop-j.auto.j-end
    c.loop-j-test.false
