-- What the tests say of the operands, and the last row's weight. Assumes nothing.
use Rattle.std.proofs.Common.{arith}
use lib.Pow.{pow_pos}
use Rattle.table.proofs.Outcomes.{accepted_outcome}
use Rattle.split_eq.specs.Split.{last_answer}
use Rattle.split_eq.proofs.Tested.{last_tested}
use Rattle.split_eq.proofs.WorkWeights.{filled, last_weight}
use Rattle.split_eq.proofs.scalar.last_scalar.Goals as goal

pub of-point-requires : goal.of-point-requires
of-point-requires c = (last_tested _ _ _ c.in_ok-of_last.ensures).0.0

pub fill-requires : goal.fill-requires
fill-requires c =
    let told = last_tested _ _ _ c.in_ok-of_last.ensures in
    rw c.of-point.ensures.count (told.0.1, told.1)

pub rows-requires : goal.rows-requires
rows-requires c = omega (arith, c.of-point.result.tested.few)

pub weight-requires : goal.weight-requires
weight-requires c = (
  filled _ _ _ _ c.fill.ensures c.of-point.result.tested,
  omega (arith, c.rows.ensures, pow_pos c.of-point.result.count),
)

pub returns-clause-result_value : goal.returns-clause-result_value
unfolding last_answer
returns-clause-result_value c =
    accepted_outcome _ c.in_ok-of_last.ensures _ _
    (rw (c.of-point.ensures.count, c.of-point.ensures.words) at (last_weight _ _ _ _ c.fill.ensures _ c.rows.ensures c.weight.ensures))
