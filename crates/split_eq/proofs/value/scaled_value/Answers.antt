-- `split_eq::value::scaled_value` meets its contract. Assumes nothing.
use Rattle.std.proofs.Common.{rules}
use lib.Pow.{pow_pos}
use Rattle.weigh.proofs.FewVariables.{entry_there}
use Rattle.split_eq.proofs.Scaled.{constant, scaled}
use Rattle.split_eq.proofs.value.scaled_value.Goals as goal

pub read-requires : goal.read-requires
read-requires g c = entry_there c.requires.whole 0 (pow_pos _)

pub returns-then-point-eq0-clause-value : goal.returns-then-point-eq0-clause-value
returns-then-point-eq0-clause-value g c = constant _ _ _ _ c.if-point-eq0.true (search rules)

pub returns-clause-value : goal.returns-clause-value
returns-clause-value g c = scaled _ _ _ _ c.if-point-eq0.false c.weigh.ensures
