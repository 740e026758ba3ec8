-- None, one row, whole rows, and the two halves of the rows. Assumes nothing.
use Rattle.std.proofs.Common.{refl, arith}
use Rattle.std.proofs.Math.Nat.{pos_of_ne-zero}
use Rattle.scatter.proofs.Scattering.{no_words, row_scattered, rows_scattered, half_fits, low_scatters, high_scatters, halves_joined}
use Rattle.scatter.proofs.WholeRows.{two_rows_lem}
use Rattle.scatter.proofs.+scatter.Goals as goal

pub returns-then-words-eq0 : goal.returns-then-words-eq0
returns-then-words-eq0 t c = no_words c.requires c.if-words-eq0.true

pub returns-then-left-eq0 : goal.returns-then-left-eq0
returns-then-left-eq0 t c = row_scattered c.requires c.if-left-eq0.true c.gain_rows.ensures

pub returns-then-words-inner : goal.returns-then-words-inner
returns-then-words-inner t c =
    rows_scattered c.requires 2 c.if-left-eq2.true c.if-words-inner.true c.four_rows.ensures (λ y h. refl)

pub returns-then-inner-ge-LONG : goal.returns-then-inner-ge-LONG
returns-then-inner-ge-LONG t c =
    rows_scattered c.requires c.args.rest.count refl (rw c.rows.ensures at c.if-words-rows.true) c.long_rows.ensures (λ y h. refl)

pub returns-then-left-eq5 : goal.returns-then-left-eq5
returns-then-left-eq5 t c =
    rows_scattered c.requires c.args.rest.count refl (rw c.rows.ensures at c.if-words-rows.true) c.block_rows.ensures (λ y h. refl)

pub returns-then-words-inner-2 : goal.returns-then-words-inner-2
returns-then-words-inner-2 t c =
    rows_scattered c.requires 1 c.if-left-eq1.true c.if-words-inner-2.true c.gain_rows-then-words-inner-2.ensures (λ y h.
    two_rows_lem c.args.weight c.args.rest c.args.words.now _ c.read.ensures c.mul-high.ensures c.sub-low.ensures c.if-left-eq1.true y)

pub overflow_mul-half : goal.overflow_mul-half
overflow_mul-half t c = omega (arith, half_fits c.requires c.if-left-eq0.false c.rows-2.ensures)

pub scatter-requires : goal.scatter-requires
scatter-requires t c =
    let some = pos_of_ne-zero c.if-left-eq0.false in (
      omega (arith, c.decreases, c.after-others.ensures.count),
      low_scatters c.requires c.if-left-eq0.false _ c.rows-2.ensures _ _ c.min-at0.ensures c.min-cut.ensures c.after-others.result
          c.after-others.ensures.words c.after-others.ensures.count c.sub-low.ensures.below,
    )

pub scatter-requires-2 : goal.scatter-requires-2
scatter-requires-2 t c =
    let some = pos_of_ne-zero c.if-left-eq0.false in (
      omega (arith, c.decreases, c.after-others.ensures.count),
      high_scatters c.requires c.if-left-eq0.false _ c.rows-2.ensures _ _ c.min-at0.ensures c.min-cut.ensures c.after-others.result
          c.after-others.ensures.words c.after-others.ensures.count c.mul-high.ensures.below c.scatter.ensures,
    )

pub returns : goal.returns
returns t c =
    halves_joined c.requires c.if-left-eq0.false _ c.rows-2.ensures _ _ c.min-at0.ensures c.min-cut.ensures c.after-others.result
    c.after-others.ensures.words c.after-others.ensures.count c.read.ensures c.mul-high.ensures c.sub-low.ensures
    c.scatter.ensures c.scatter-2.ensures
