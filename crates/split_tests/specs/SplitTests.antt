-- What split folds, values with a scale, `accumulate_into` and `last_scalar` are refused for (document 01, "Refused calls":
-- "Evaluations, split folds, `accumulate_into`, `last_scalar`"). Assumes nothing.
use Rattle.std.specs.Prelude.{ℕ, ◌-◌, not, List, [], ◌∷◌, eqb, ltb, length}
use Rattle.algebra.specs.Words.{unreduced}
use Rattle.field.specs.Field.{p}
use Rattle.field.specs.declared.Element.{Element}
use Rattle.table.specs.Table.{entries}
use Rattle.table.specs.Refusals.{Test, ◌gives◌, verdict}
use Rattle.table.specs.Refusals.{splits, not_power, variables, too_many_variables, too_many, rows_differ}
use Rattle.work.specs.Work.{work_differs}

-- the variables that remain
abbrev pub remains : List ℕ → List ℕ → ℕ
remains table point = variables (length table) - entries point

-- Split folds: 1, 2, 3, 4 (also k above n, work, out), 5. After 1
abbrev pub sized_fold_tests : List ℕ → List ℕ → Element → List ℕ → List ℕ → List Test
sized_fold_tests table point scale work out =
    not_power (length table) gives 2
    ∷ too_many_variables (length table) gives 3
    ∷ too_many point gives 3
    ∷ ltb (variables (length table)) (entries point) gives 4
    ∷ work_differs work (entries point) gives 4
    ∷ rows_differ out (remains table point) gives 4
    ∷ unreduced p table gives 5
    ∷ unreduced p point gives 5
    ∷ unreduced p scale.c gives 5
    ∷ []

-- and whole
abbrev pub fold_tests : List ℕ → List ℕ → Element → List ℕ → List ℕ → List Test
fold_tests table point scale work out =
    splits point gives 1 ∷ splits work gives 1 ∷ splits out gives 1 ∷ sized_fold_tests table point scale work out

unfoldable pub fold_answer : List ℕ → List ℕ → Element → List ℕ → List ℕ → ℕ
fold_answer table point scale work out = verdict (fold_tests table point scale work out)

-- Evaluations: 1, 2, 3, 4 (also work), 5; k = n. After 1, of a table of `count` entries
abbrev pub value_tests : ℕ → List ℕ → List ℕ → Element → List ℕ → List Test
value_tests count table point scale work =
    not_power count gives 2
    ∷ too_many_variables count gives 3
    ∷ too_many point gives 3
    ∷ not (eqb (variables count) (entries point)) gives 4
    ∷ work_differs work (entries point) gives 4
    ∷ unreduced p table gives 5
    ∷ unreduced p point gives 5
    ∷ unreduced p scale.c gives 5
    ∷ []

-- of a table of base words
abbrev pub base_tests : List ℕ → List ℕ → Element → List ℕ → List Test
base_tests table point scale work = splits point gives 1 ∷ splits work gives 1 ∷ value_tests (length table) table point scale work

unfoldable pub base_answer : List ℕ → List ℕ → Element → List ℕ → ℕ
base_answer table point scale work = verdict (base_tests table point scale work)

-- of a table of elements
abbrev pub ext_tests : List ℕ → List ℕ → Element → List ℕ → List Test
ext_tests table point scale work =
    splits table gives 1 ∷ splits point gives 1 ∷ splits work gives 1 ∷ value_tests (entries table) table point scale work

unfoldable pub ext_answer : List ℕ → List ℕ → Element → List ℕ → ℕ
ext_answer table point scale work = verdict (ext_tests table point scale work)

-- `last_scalar`: 1, 3, 4 (work), 5
abbrev pub last_tests : List ℕ → Element → List ℕ → List Test
last_tests point scale work =
    splits point gives 1
    ∷ splits work gives 1
    ∷ too_many point gives 3
    ∷ work_differs work (entries point) gives 4
    ∷ unreduced p point gives 5
    ∷ unreduced p scale.c gives 5
    ∷ []

-- `accumulate_into`: out is the table, and "accumulated out is input": 1, 2, 3, 4 (also work), 5
abbrev pub accumulate_tests : List ℕ → Element → Element → List ℕ → List ℕ → List Test
accumulate_tests point scale given work out =
    splits point gives 1
    ∷ splits work gives 1
    ∷ splits out gives 1
    ∷ not_power (entries out) gives 2
    ∷ too_many_variables (entries out) gives 3
    ∷ too_many point gives 3
    ∷ not (eqb (variables (entries out)) (entries point)) gives 4
    ∷ work_differs work (entries point) gives 4
    ∷ unreduced p out gives 5
    ∷ unreduced p point gives 5
    ∷ unreduced p scale.c gives 5
    ∷ unreduced p given.c gives 5
    ∷ []

unfoldable pub accumulate_answer : List ℕ → Element → Element → List ℕ → List ℕ → ℕ
accumulate_answer point scale given work out = verdict (accumulate_tests point scale given work out)
