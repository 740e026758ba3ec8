-- Tables made from a point (document 01, "Points and equality": `new_from_point`; "Successors": `new_next_from_point`; document 02, request
-- (f): `new_cyclic_from_point`). Assumes nothing.
use Rattle.std.specs.Prelude.{ℕ, ◌^◌, List, [], ◌∷◌}
use Rattle.algebra.specs.Words.{unreduced}
use Rattle.multilinear.specs.Equality.{eq_at}
use Rattle.multilinear.specs.declared.Weight.{Weight}
use Rattle.multilinear.specs.declared.Weight.TheVariants.{Next, Cyclic}
use Rattle.multilinear.specs.Folds.{weight_at}
use Rattle.field.specs.Field.{p, field, from_words}
use Rattle.field.specs.declared.Element.{Element}
use Rattle.table.specs.Table.{table_words, entries, point_of}
use Rattle.table.specs.Refusals.{Test, ◌gives◌, verdict, leaves, splits, too_many, rows_differ}
use Rattle.point.specs.Point.{table_answer}

-- Equality tables with a scale: 1, 3, 4 (out), 5
abbrev pub scaled_tests : List ℕ → Element → List ℕ → List Test
scaled_tests point scale out =
    splits point gives 1
    ∷ splits out gives 1
    ∷ too_many point gives 3
    ∷ rows_differ out (entries point) gives 4
    ∷ unreduced p point gives 5
    ∷ unreduced p scale.c gives 5
    ∷ []

-- `new_from_point` gives scale·eq
unfoldable pub new_answer : List ℕ → Element → List ℕ → ℕ
new_answer point scale out = verdict (scaled_tests point scale out)

unfoldable pub new_out : List ℕ → Element → List ℕ → List ℕ
new_out point scale out =
    leaves (new_answer point scale out)
    (table_words (2 ^ entries point) (λ y. field.mul (from_words scale) (eq_at field (point_of point) y))) out

-- the table of a point's weights, one for each row; what fills it refuses as `equality_table` does
unfoldable pub weights_out : Weight → List ℕ → List ℕ → List ℕ
weights_out weight point out =
    leaves (table_answer point out) (table_words (2 ^ entries point) (weight_at field weight (point_of point))) out

-- `new_next_from_point` gives the next weights, `new_cyclic_from_point` the cyclic ones
abbrev pub next_out : List ℕ → List ℕ → List ℕ
next_out = weights_out Next

abbrev pub cyclic_out : List ℕ → List ℕ → List ℕ
cyclic_out = weights_out Cyclic
