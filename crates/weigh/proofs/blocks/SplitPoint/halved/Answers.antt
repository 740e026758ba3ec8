-- `SplitPoint::halved` meets its contract. Assumes nothing.
use Rattle.std.proofs.Common.{refl}
use Rattle.weigh.proofs.Splitting.{falls, some_left}
use Rattle.weigh.proofs.WordParts.{low_fits, high_fits}
use Rattle.weigh.proofs.blocks.SplitPoint.halved.Goals as goal

pub returns : goal.returns
returns g c =
    let left = some_left c.requires.1 in
    let parts = rw c.rows.ensures at c.halves.ensures in
    record {
      after = c.after.ensures;
      falls = falls _ left c.after.ensures;
      halves = parts;
      low_fits = low_fits _ c.args.piece c.requires.0 left c.after.ensures refl parts;
      high_fits = high_fits _ c.args.piece c.requires.0 left c.after.ensures refl parts;
    }
