-- `SplitPoint::halved_ext` meets its contract. Assumes nothing.
use Rattle.std.proofs.Common.{sym, ap, ◌*◌, arith}
use lib.ListN.{take}
use lib.Seq.{length-take-le}
use Rattle.table.proofs.Parts.{rest}
use Rattle.weigh.proofs.Splitting.{falls, some_left}
use Rattle.weigh.proofs.ElementParts.{half_there, low_half, high_half}
use Rattle.weigh.proofs.blocks.SplitPoint.halved_ext.Goals as goal

pub slice_bounds-result-end : goal.slice_bounds-result-end
slice_bounds-result-end g c = sym (length-take-le _ _ (half_there c.args.self.now c.requires.0 (some_left c.requires.1) c.rows-half.ensures))

pub slice_bounds-result-count : goal.slice_bounds-result-count
slice_bounds-result-count g c = half_there c.args.self.now c.requires.0 (some_left c.requires.1) c.rows-half.ensures

pub slice_bounds-result-start : goal.slice_bounds-result-start
slice_bounds-result-start g c = omega (arith, half_there c.args.self.now c.requires.0 (some_left c.requires.1) c.rows-half.ensures)

pub returns : goal.returns
returns g c =
    let left = some_left c.requires.1 in
    let e = c.rows-half.ensures in
    let ws = c.args.entries.now in
    record {
      after = c.after.ensures;
      falls = falls _ left c.after.ensures;
      low_is = ap (λ n. take (4 * n) ws) e;
      high_is = ap (λ n. rest n ws) e;
      low_whole = low_half _ c.requires.0 left c.after.ensures e;
      high_whole = high_half _ c.requires.0 left c.after.ensures e;
    }
