-- The values of both pairs, on the line. Assumes nothing.
use Rattle.std.proofs.Common.{refl, arith}
use Rattle.weigh.proofs.TableHalves.{low_whole, high_whole}
use Rattle.weigh.proofs.FewVariables.{table_joined}
use Rattle.weigh.proofs.small.Prepared.two_pairs.Goals as goal

pub pair-at0-requires : goal.pair-at0-requires
pair-at0-requires g c = (omega (arith, c.requires.0, c.rest-rest.ensures.count), rw c.WIDTH-half.ensures (low_whole refl refl c.requires.1))

pub pair-at1-requires : goal.pair-at1-requires
pair-at1-requires g c = (omega (arith, c.requires.0, c.rest-rest.ensures.count), rw c.WIDTH-half.ensures (high_whole refl refl c.requires.1))

pub returns : goal.returns
returns g c =
    table_joined g.met.T.Entries.parted c.args.self.point c.rest-rest.ensures (λ z. omega (arith, c.requires.0, z)) {half = 2} (rw c.requires.0 refl) _
    (rw c.WIDTH-half.ensures at c.pair-at0.ensures) (rw c.WIDTH-half.ensures at c.pair-at1.ensures) c.line_at.ensures
