-- The words that follow are as many fewer, and are tested too. Assumes nothing.
use native.Mathlib.Omega.{arith}
use Rattle.table.proofs.Parts.{rest_length, rest_below}
use Rattle.point.proofs.Point.after.Goals as goal

pub invariant_of-result : goal.invariant_of-result
invariant_of-result c =
    let point = c.args.self in
    record {
      tested = record {
        few = omega (arith, point.tested.few);
        count = omega (arith, point.tested.count, rest_length c.args.k point.words.now);
        below = rest_below c.args.k point.words.now point.tested.below;
      };
    }
