-- The sum from a row on, by the weight. Assumes nothing.
use Rattle.std.proofs.Common.{refl, ◌-◌, ap, arith}
use Rattle.padding.proofs.Weights.{shifted, next}
use Rattle.padding.proofs.tail.Goals as goal

pub returns-in-Shifted : goal.returns-in-Shifted
returns-in-Shifted c =
    shifted _ _ _ c.args.row c.in-Shifted.is c.requires (omega arith) refl (ap (λ n. n - 1) c.rows-in-Shifted.ensures)
    c.from_row-sum.ensures c.at_row.ensures c.sub.ensures

pub returns-in-Next : goal.returns-in-Next
returns-in-Next c = next _ _ _ c.args.row c.in-Next.is (omega arith) refl c.from_row-in-Next.ensures
