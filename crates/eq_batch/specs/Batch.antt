-- `eval_eq_batch` (document 01, "Beside these"; "Refused calls": Batch): n rows of w coordinates, column j a point. Assumes nothing.
use Rattle.std.specs.Prelude.{ℕ, zero, suc, ◌+◌, ◌*◌, ◌^◌, Bool, true, false, not, ◌&&◌, cond, List, [], ◌∷◌, eqb, ltb, length}
use Rattle.algebra.specs.Words.{unreduced}
use Rattle.multilinear.specs.Beside.{eval_batch}
use Rattle.field.specs.Field.{p, Ext, field}
use Rattle.table.specs.Table.{table_words, entries, element_at}
use Rattle.table.specs.Refusals.{Test, ◌gives◌, verdict, leaves, most, splits, rows_differ}

-- 3: over 64 points
abbrev pub most_points : ℕ
most_points = 64

-- rows i and after of column j, w columns a row
unfoldable pub column_from : List ℕ → ℕ → ℕ → ℕ → ℕ → List Ext
column_from ws w j i zero = []
column_from ws w j i (suc m) = element_at ws (i * w + j) ∷ column_from ws w j (suc i) m

-- point j: column j of n rows
abbrev pub column : List ℕ → ℕ → ℕ → ℕ → List Ext
column ws n w j = column_from ws w j 0 n

-- 1, 3 (also over 64 points), 4 (coordinates not n·w, or out not 2^n), 5 (out too when adding)
abbrev pub batch_tests : Bool → ℕ → List ℕ → List ℕ → List ℕ → List Test
batch_tests adding n points scalars out =
    splits points gives 1
    ∷ splits scalars gives 1
    ∷ splits out gives 1
    ∷ ltb most n gives 3
    ∷ ltb most_points (entries scalars) gives 3
    ∷ not (eqb (entries points) (n * entries scalars)) gives 4
    ∷ rows_differ out n gives 4
    ∷ unreduced p points gives 5
    ∷ unreduced p scalars gives 5
    ∷ (adding && unreduced p out) gives 5
    ∷ []

-- "with no scalars accepted, nothing read, out kept"
unfoldable pub batch_answer : Bool → ℕ → List ℕ → List ℕ → List ℕ → ℕ
batch_answer adding n points scalars out = cond (eqb (length scalars) 0) 0 (verdict (batch_tests adding n points scalars out))

-- the sum over the points of scalar j times eq of point j, at row y
abbrev pub batch_at : ℕ → List ℕ → List ℕ → ℕ → Ext
batch_at n points scalars y = eval_batch field (entries scalars) (element_at scalars) (column points n (entries scalars)) y

-- out becomes that, or gains it
unfoldable pub set_out : ℕ → List ℕ → List ℕ → List ℕ → List ℕ
set_out n points scalars out =
    cond (eqb (length scalars) 0) out
    (leaves (batch_answer false n points scalars out) (table_words (2 ^ n) (batch_at n points scalars)) out)

unfoldable pub add_out : ℕ → List ℕ → List ℕ → List ℕ → List ℕ
add_out n points scalars out =
    cond (eqb (length scalars) 0) out
    (leaves (batch_answer true n points scalars out) (table_words (2 ^ n) (λ y. field.add (element_at out y) (batch_at n points scalars y))) out)
