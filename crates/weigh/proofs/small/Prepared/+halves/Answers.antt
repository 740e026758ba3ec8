-- One entry, one pair or two, or the values of the halves, on the line. Assumes nothing.
use Rattle.std.proofs.Common.{rules, arith, sym, ◌*◌, ◌≤◌, length}
use native.Mathlib.Nat.{pos_of_ne-zero}
use lib.Seq.{length-take-le}
use Rattle.weigh.proofs.Halving.{one_more, one_entry}
use Rattle.weigh.proofs.TableHalves.{half_there, low_whole, high_whole}
use Rattle.weigh.proofs.FewVariables.{table_joined}
use Rattle.weigh.proofs.small.Prepared.+halves.Goals as goal

pub slice_bounds-halves-end : goal.slice_bounds-halves-end
slice_bounds-halves-end g t c =
    sym (length-take-le _ _ (rw c.WIDTH.ensures (half_there (one_more c.if-self-eq0.false) c.rows.ensures c.requires)))

pub halves-at0-requires : goal.halves-at0-requires
halves-at0-requires g t c κs within = (
  omega (arith, c.decreases, pos_of_ne-zero c.if-self-eq0.false, c.rest-rest.ensures.count),
  (within, rw (c.WIDTH.ensures, c.rest-rest.ensures.count) (low_whole (one_more c.if-self-eq0.false) c.rows.ensures c.requires)),
)

pub slice_bounds-halves-count : goal.slice_bounds-halves-count
slice_bounds-halves-count g t c = rw c.WIDTH.ensures (half_there (one_more c.if-self-eq0.false) c.rows.ensures c.requires)

pub offset_bounds-table-half : goal.offset_bounds-table-half
offset_bounds-table-half g t c =
    let b : c.WIDTH.result * c.rows.result ≤ length c.args.table.now = slice_bounds-halves-count g t c in
    search rules

pub slice_bounds-halves-start : goal.slice_bounds-halves-start
slice_bounds-halves-start g t c =
    let b : c.WIDTH.result * c.rows.result ≤ length c.args.table.now = slice_bounds-halves-count g t c in
    omega arith

pub halves-at1-requires : goal.halves-at1-requires
halves-at1-requires g t c κs within = (
  omega (arith, c.decreases, pos_of_ne-zero c.if-self-eq0.false, c.rest-rest.ensures.count),
  (within, rw (c.WIDTH.ensures, c.rest-rest.ensures.count) (high_whole (one_more c.if-self-eq0.false) c.rows.ensures c.requires)),
)

pub returns-then-self-eq0 : goal.returns-then-self-eq0
returns-then-self-eq0 g t c = one_entry _ _ _ c.if-self-eq0.true c.read.ensures

pub returns-else-self-eq2 : goal.returns-else-self-eq2
returns-else-self-eq2 g t c =
    table_joined g.met.T.Entries.parted c.args.self.now.point c.rest-rest.ensures c.if-self-eq0.false c.rows.ensures _
    (rw c.WIDTH.ensures at c.halves-at0.ensures) (rw c.WIDTH.ensures at c.halves-at1.ensures) c.line_at.ensures
