-- `byte_fold::compress`: section after section. Assumes nothing.
use Rattle.std.proofs.Common.{arith}
use Rattle.byte_fold.proofs.Sections.{start, within, part_within, part, turn, finish}
use Rattle.byte_fold.proofs.compress.Goals as goal

pub loop-j-init : goal.loop-j-init
loop-j-init c = start c.requires c.min-held.ensures c.rows-places.ensures c.rows-j-end.ensures

pub new-section-requires-clause-within : goal.new-section-requires-clause-within
new-section-requires-clause-within c =
    omega (
      arith,
      within c.requires c.min-held.ensures c.rows-places.ensures c.rows-j-end.ensures c.loop-j-test.true,
      c.rows-places.ensures,
    )

pub slice_bounds-fold-end : goal.slice_bounds-fold-end
slice_bounds-fold-end c =
    omega (
      arith,
      part_within c.requires c.min-held.ensures c.rows-places.ensures c.rows-j-end.ensures c.loop-j-test.true,
      c.loop-j.auto.out,
    )

pub fold-requires : goal.fold-requires
fold-requires c =
    part c.requires c.min-held.ensures c.rows-places.ensures c.rows-j-end.ensures c.loop-j-test.true c.new-section.result c.new-section.ensures.plan
    c.new-section.ensures.inner c.new-section.ensures.from c.new-section.ensures.table c.loop-j.invariant

pub loop-j-preserved : goal.loop-j-preserved
loop-j-preserved c =
    turn c.requires c.min-held.ensures c.rows-places.ensures c.rows-j-end.ensures c.loop-j-test.true c.new-section.result c.new-section.ensures.plan
    c.new-section.ensures.inner c.new-section.ensures.from c.new-section.ensures.table c.loop-j.invariant c.fold.ensures

pub returns : goal.returns
returns c =
    finish c.requires c.min-held.ensures c.rows-places.ensures c.rows-j-end.ensures c.loop-j.invariant c.loop-j.auto.j-end
    c.loop-j-test.false
