-- What the tests say of the operands. Assumes nothing.
use Rattle.std.proofs.Common.{arith}
use Rattle.split_eq.proofs.Tested.{ext_tested}
use Rattle.split_eq.proofs.value.eval_ext.Goals as goal

pub of-requires : goal.of-requires
of-requires c = (ext_tested _ _ _ _ (omega arith) c.in_ok-of_ext.ensures).0.0.0

pub scaled_value-requires-clause-operands : goal.scaled_value-requires-clause-operands
scaled_value-requires-clause-operands c =
    let told = ext_tested _ _ _ _ (omega arith) c.in_ok-of_ext.ensures in
    rw c.of.ensures.count (told.0.0.1, told.0.1)

pub scaled_value-requires-clause-whole : goal.scaled_value-requires-clause-whole
scaled_value-requires-clause-whole c = rw c.of.ensures.count (ext_tested _ _ _ _ (omega arith) c.in_ok-of_ext.ensures).1
