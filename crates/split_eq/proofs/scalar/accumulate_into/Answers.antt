-- What the tests say of the operands, and what out gains. Assumes nothing.
use Rattle.std.proofs.Common.{sym, ◌∙◌, arith}
use Rattle.table.proofs.Outcomes.{accepted_leaves}
use Rattle.split_eq.specs.Split.{accumulate_out}
use Rattle.split_eq.proofs.Tested.{accumulate_tested}
use Rattle.split_eq.proofs.WorkWeights.{filled, gained}
use Rattle.split_eq.proofs.scalar.accumulate_into.Goals as goal

pub of-point-requires : goal.of-point-requires
of-point-requires c = (accumulate_tested _ _ _ _ _ (omega arith) c.in_ok-of_accumulate.ensures).0.0.0

pub fill-requires : goal.fill-requires
fill-requires c =
    let told = accumulate_tested _ _ _ _ _ (omega arith) c.in_ok-of_accumulate.ensures in
    rw c.of-point.ensures.count (told.0.0.1, told.0.1)

pub accumulate-requires : goal.accumulate-requires
accumulate-requires c =
    let told = accumulate_tested _ _ _ _ _ (omega arith) c.in_ok-of_accumulate.ensures in
    ((filled _ _ _ _ c.fill.ensures c.of-point.result.tested, told.1), rw c.of-point.ensures.count told.2)

pub returns-clause-out_after : goal.returns-clause-out_after
unfolding accumulate_out
returns-clause-out_after c =
    (rw (c.of-point.ensures.count, c.of-point.ensures.words) at (c.accumulate.ensures ∙ gained _ _ _ _ c.fill.ensures _ _))
    ∙ sym (accepted_leaves _ c.in_ok-of_accumulate.ensures _ _)
