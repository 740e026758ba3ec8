-- The work buffer (document 01, "Split folds"): eq0 takes the first floor(k/2) coordinates and the scale, eq1 the others.
-- Assumes nothing.
use Rattle.std.specs.Prelude.{ℕ, ◌+◌, ◌-◌, ◌/◌, ◌^◌, Bool, not, List, ◌++◌, eqb}
use Rattle.multilinear.specs.Equality.{eq_at}
use Rattle.field.specs.Field.{Ext, field}
use Rattle.table.specs.Table.{table_words, entries, elements}

-- the coordinates of eq0 and of eq1, of k
abbrev pub first : ℕ → ℕ
first k = k / 2

abbrev pub others : ℕ → ℕ
others k = k - first k

-- 4: "the work buffer has just both tables' words"
abbrev pub work_differs : List ℕ → ℕ → Bool
work_differs work k = not (eqb (entries work) (2 ^ first k + 2 ^ others k))

-- eq0, then eq1
unfoldable pub work_words : ℕ → List ℕ → Ext → List ℕ
work_words k point scale =
    table_words (2 ^ first k) (λ y. field.mul scale (eq_at field (elements point 0 (first k)) y))
    ++ table_words (2 ^ others k) (eq_at field (elements point (first k) (others k)))
