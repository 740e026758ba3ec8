-- What the inner functions answer. No operation that users call cites it. Assumes nothing.
use Rattle.std.specs.Prelude.{ℕ, List, [], ◌∷◌}
use Rattle.algebra.specs.Words.{unreduced}
use Rattle.field.specs.Field.{p}
use Rattle.table.specs.Refusals.{Test, ◌gives◌}

-- the tests of the operands: 5
abbrev pub operand_tests : List ℕ → List ℕ → List Test
operand_tests x y = unreduced p x gives 5 ∷ unreduced p y gives 5 ∷ []
