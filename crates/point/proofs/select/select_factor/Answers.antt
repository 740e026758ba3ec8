-- c power - c + 1 is c (power - 1) + 1. Assumes nothing.
use Rattle.field.proofs.Laws.{read_as}
use Rattle.point.proofs.Selecting.{select_factor_law}
use Rattle.point.proofs.select.select_factor.Goals as goal

pub returns : goal.returns
returns c =
    rw (
      read_as _ c.sub.ensures,
      read_as _ c.mul_base.ensures,
      read_as _ c.one.ensures,
      select_factor_law,
    ) at c.add.ensures
