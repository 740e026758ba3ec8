-- What the tests say of the operands. Assumes nothing.
use Rattle.std.proofs.Common.{arith}
use Rattle.split_eq.proofs.Tested.{base_tested}
use Rattle.split_eq.proofs.value.eval_next_base.Goals as goal

pub of-point-requires : goal.of-point-requires
of-point-requires c = (base_tested _ _ _ _ (omega arith) c.in_ok-of_base.ensures).0.0.0

pub fill-requires : goal.fill-requires
fill-requires c =
    let told = base_tested _ _ _ _ (omega arith) c.in_ok-of_base.ensures in
    rw c.of-point.ensures.count (told.0.0.1, told.0.1)

pub scaled_next_value-requires-clause-operands : goal.scaled_next_value-requires-clause-operands
scaled_next_value-requires-clause-operands c =
    let told = base_tested _ _ _ _ (omega arith) c.in_ok-of_base.ensures in
    rw c.of-point.ensures.count (told.0.0.1, told.1)
