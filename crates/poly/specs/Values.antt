-- Values of a table at a point (document 01, "Values"; "Refused calls": Evaluations; document 02, request (f)). Assumes nothing.
use Rattle.std.specs.Prelude.{ℕ, not, List, [], ◌∷◌, eqb, length, get_or}
use Rattle.algebra.specs.Words.{unreduced}
use Rattle.multilinear.specs.Values.{value_at, next_value_at, cyclic_value_at}
use Rattle.field.specs.Field.{p, field, base}
use Rattle.table.specs.Table.{entries, element_at, point_of}
use Rattle.table.specs.Refusals.{Outcome, Test, ◌gives◌, verdict, evaluated, splits, not_power, variables, too_many_variables, too_many}

-- Evaluations: 1, 2, 3, 4, 5. After 1, of a table of `count` entries
abbrev pub value_tests : ℕ → List ℕ → List ℕ → List Test
value_tests count table point =
    not_power count gives 2
    ∷ too_many_variables count gives 3
    ∷ too_many point gives 3
    ∷ not (eqb (variables count) (entries point)) gives 4
    ∷ unreduced p table gives 5
    ∷ unreduced p point gives 5
    ∷ []

-- a table of base words has an entry a word, a table of elements an entry for four
abbrev pub base_tests : List ℕ → List ℕ → List Test
base_tests table point = splits point gives 1 ∷ value_tests (length table) table point

abbrev pub ext_tests : List ℕ → List ℕ → List Test
ext_tests table point = splits table gives 1 ∷ splits point gives 1 ∷ value_tests (entries table) table point

-- `Poly::eval_base`, `eval_ext`: the sum of eq[y]·f[y]
unfoldable pub eval_base_answer : List ℕ → List ℕ → Outcome
eval_base_answer table point = evaluated (verdict (base_tests table point)) (value_at field (point_of point) (λ y. base (get_or table y 0)))

unfoldable pub eval_ext_answer : List ℕ → List ℕ → Outcome
eval_ext_answer table point = evaluated (verdict (ext_tests table point)) (value_at field (point_of point) (element_at table))

-- `Poly::eval_next_base`: the sum of next[y]·f[y]
unfoldable pub eval_next_base_answer : List ℕ → List ℕ → Outcome
eval_next_base_answer table point =
    evaluated (verdict (base_tests table point)) (next_value_at field (point_of point) (λ y. base (get_or table y 0)))

-- `Poly::eval_cyclic_base`, its fellow: the sum of cyclic[y]·f[y]
unfoldable pub eval_cyclic_base_answer : List ℕ → List ℕ → Outcome
eval_cyclic_base_answer table point =
    evaluated (verdict (base_tests table point)) (cyclic_value_at field (point_of point) (λ y. base (get_or table y 0)))
