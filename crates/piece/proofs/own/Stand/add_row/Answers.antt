-- No word of the row, or its words by one weight. Assumes nothing.
use Rattle.std.proofs.Common.{refl, arith}
use Rattle.piece.proofs.own.Reaching.{untouched, first_there, first_fits, start_within, row_there, row_gained}
use Rattle.piece.proofs.own.Stand.add_row.Goals as goal

pub returns-then-first-end : goal.returns-then-first-end
returns-then-first-end c =
    untouched c.args.self c.args.piece.now c.requires.0 c.requires.1 c.reach-first.ensures c.reach-end.ensures c.if-first-end.true

pub overflow_mul-start : goal.overflow_mul-start
overflow_mul-start c =
    let fits =
    first_fits c.args.self c.args.piece.now c.requires.0 c.requires.1 c.reach-first.ensures c.reach-end.ensures c.if-first-end.false in
    omega (arith, fits)

pub overflow_add-start : goal.overflow_add-start
overflow_add-start c =
    let fits =
    first_fits c.args.self c.args.piece.now c.requires.0 c.requires.1 c.reach-first.ensures c.reach-end.ensures c.if-first-end.false in
    omega (arith, fits)

pub overflow_sub-start : goal.overflow_sub-start
overflow_sub-start c =
    first_there c.args.self c.args.piece.now c.requires.0 c.requires.1 c.reach-first.ensures c.reach-end.ensures c.if-first-end.false

pub offset_bounds-piece-start : goal.offset_bounds-piece-start
offset_bounds-piece-start c =
    let fits =
    first_fits c.args.self c.args.piece.now c.requires.0 c.requires.1 c.reach-first.ensures c.reach-end.ensures c.if-first-end.false in
    omega (arith, fits)

pub slice_bounds-gain_row-count : goal.slice_bounds-gain_row-count
slice_bounds-gain_row-count c =
    start_within c.args.self c.args.piece.now c.requires.0 c.requires.1 c.reach-first.ensures c.reach-end.ensures c.if-first-end.false refl

pub slice_bounds-gain_row-start : goal.slice_bounds-gain_row-start
slice_bounds-gain_row-start c =
    start_within c.args.self c.args.piece.now c.requires.0 c.requires.1 c.reach-first.ensures c.reach-end.ensures c.if-first-end.false refl

pub gain_row-requires-clause-row : goal.gain_row-requires-clause-row
gain_row-requires-clause-row c =
    row_there c.args.self c.args.piece.now c.requires.0 c.requires.1 c.reach-first.ensures c.reach-end.ensures c.if-first-end.false refl

pub returns : goal.returns
returns c =
    row_gained c.args.self c.args.piece.now c.requires.0 c.requires.1 c.reach-first.ensures c.reach-end.ensures c.if-first-end.false refl
    c.rows-last.ensures c.at_row-eq.ensures c.mul.ensures c.gain_row.ensures
