-- The low table in its room, the high one at the front of out, and all blocks. Assumes nothing.
use Rattle.std.proofs.Common.{sym, ◌∙◌, ap, ◌*◌}
use lib.Seq.{length-take-le}
use Rattle.point.proofs.InBlocks.{rows_fit, spans, filled}
use Rattle.point.proofs.blocks.fill.Goals as goal

pub slice_bounds-by_doubling-end-2 : goal.slice_bounds-by_doubling-end-2
slice_bounds-by_doubling-end-2 c = rows_fit c.args.scale c.halves.ensures c.requires.1 _ c.requires.2 c.rows-rows.ensures

pub slice_bounds-by_doubling-end-3 : goal.slice_bounds-by_doubling-end-3
slice_bounds-by_doubling-end-3 c =
    sym (length-take-le _ _ (rows_fit c.args.scale c.halves.ensures c.requires.1 _ c.requires.2 c.rows-rows.ensures))

pub by_doubling-requires-2 : goal.by_doubling-requires-2
by_doubling-requires-2 c = (
  c.one.ensures.below,
  length-take-le _ _ (rows_fit c.args.scale c.halves.ensures c.requires.1 _ c.requires.2 c.rows-rows.ensures)
      ∙ ap (λ n. 4 * n) c.rows-rows.ensures,
)

pub span-requires : goal.span-requires
span-requires c =
    spans c.args.scale c.halves.ensures c.requires.1 _ c.requires.2 c.rows-rows.ensures c.one.ensures c.by_doubling.ensures c.by_doubling-2.ensures

pub returns : goal.returns
returns c =
    filled c.args.scale c.halves.ensures c.requires.1 _ c.requires.2 c.rows-rows.ensures c.one.ensures c.by_doubling.ensures
    c.by_doubling-2.ensures c.span.ensures
