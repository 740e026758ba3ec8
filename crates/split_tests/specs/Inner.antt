-- What the inner functions take and give. No operation that users call cites it. Assumes nothing.
use Rattle.std.specs.Prelude.{ℕ, List, [], ◌∷◌}
use Rattle.algebra.specs.Words.{unreduced}
use Rattle.field.specs.Field.{p}
use Rattle.field.specs.declared.Element.{Element}
use Rattle.table.specs.Refusals.{Test, ◌gives◌}

-- 5, of a table, a point and a scale
abbrev pub word_tests : List ℕ → List ℕ → Element → List Test
word_tests table point scale = unreduced p table gives 5 ∷ unreduced p point gives 5 ∷ unreduced p scale.c gives 5 ∷ []
