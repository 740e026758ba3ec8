-- Operations on one point alone (document 01, "Points and equality", "Beside these", and their refused calls). Assumes nothing.
use Rattle.std.specs.Prelude.{ℕ, ◌^◌, List, [], ◌∷◌, leb}
use Rattle.algebra.specs.Words.{unreduced}
use Rattle.multilinear.specs.Equality.{eq_at, eq_lsb_at}
use Rattle.multilinear.specs.Beside.{eval_select}
use Rattle.field.specs.Field.{p, Ext, field, base}
use Rattle.table.specs.Table.{table_words, entries, point_of}
use Rattle.table.specs.Refusals.{Outcome, Test, ◌gives◌, verdict, leaves, evaluated, splits, too_many, rows_differ}
use Rattle.point.specs.declared.equality.BitOrder.{BitOrder}
use Rattle.point.specs.declared.equality.BitOrder.TheVariants.{Msb, Lsb}

-- Vertex: 1, 3, 5, 7 (vertex at or above 2^k)
abbrev pub vertex_tests : List ℕ → ℕ → List Test
vertex_tests point vertex =
    splits point gives 1
    ∷ too_many point gives 3
    ∷ unreduced p point gives 5
    ∷ leb (2 ^ entries point) vertex gives 7
    ∷ []

-- `equality_at_vertex` gives eq[y]
unfoldable pub vertex_answer : List ℕ → ℕ → Outcome
vertex_answer point y = evaluated (verdict (vertex_tests point y)) (eq_at field (point_of point) y)

-- eq in a bit order: Msb has coordinate 0 with the highest bit, Lsb with the lowest
abbrev pub eq_by : BitOrder → List Ext → ℕ → Ext
eq_by Msb zs y = eq_at field zs y
eq_by Lsb zs y = eq_lsb_at field zs y

-- Equality and next tables: 1, 3, 4 (out), 5
abbrev pub table_tests : List ℕ → List ℕ → List Test
table_tests point out =
    splits point gives 1
    ∷ splits out gives 1
    ∷ too_many point gives 3
    ∷ rows_differ out (entries point) gives 4
    ∷ unreduced p point gives 5
    ∷ []

-- `equality_table`: the answer, and out
unfoldable pub table_answer : List ℕ → List ℕ → ℕ
table_answer point out = verdict (table_tests point out)

unfoldable pub equality_out : BitOrder → List ℕ → List ℕ → List ℕ
equality_out order point out = leaves (table_answer point out) (table_words (2 ^ entries point) (eq_by order (point_of point))) out

-- `eval_select`: 1, 3, 5
abbrev pub select_tests : ℕ → List ℕ → List Test
select_tests var point = splits point gives 1 ∷ too_many point gives 3 ∷ unreduced p point gives 5 ∷ leb p var gives 5 ∷ []

unfoldable pub eval_select_answer : ℕ → List ℕ → Outcome
eval_select_answer var point = evaluated (verdict (select_tests var point)) (eval_select field (base var) (point_of point))
