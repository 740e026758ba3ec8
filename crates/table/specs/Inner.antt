-- What the inner functions take and give. No operation that users call cites it. Assumes nothing.
use Rattle.std.specs.Prelude.{ℕ, List, [], ◌∷◌}
use Rattle.table.specs.Refusals.{Test, ◌gives◌, not_power, too_many_variables, too_many}

-- 2, 3 for a table of `count` entries and a point
abbrev pub entry_tests : ℕ → List ℕ → List Test
entry_tests count point = not_power count gives 2 ∷ too_many_variables count gives 3 ∷ too_many point gives 3 ∷ []
