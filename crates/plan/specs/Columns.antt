-- What columns are, for readers: a fold with columns is one of longer rows, and each column is a fold of its own. Assumes nothing.
use Rattle.std.specs.Prelude.{◌≡◌, ℕ, ◌+◌, ◌*◌, ◌≤◌, ◌<◌}
use Rattle.multilinear.specs.Folds.{fold_at}
use Rattle.field.specs.Field.{Ext, field, from_words}
use Rattle.plan.specs.declared.Plan.{Plan}
use Rattle.plan.specs.Plan.{most_on, places, width, coordinates_of, place_of, out_of}

-- place i of a fold of one column, of rows of `inner` words
abbrev pub plain_at : Plan → ℕ → (ℕ → Ext) → ℕ → Ext
plain_at plan inner f i = fold_at field plan.side plan.weight inner (coordinates_of plan) (from_words plan.scale) f i

-- word w of column j is word w·c + j of the table
abbrev pub column_of : Plan → (ℕ → Ext) → ℕ → ℕ → Ext
column_of plan f j w = f (w * plan.columns + j)

pub record ColumnLaws : Type 0 where
  -- a fold of c columns is one of rows of inner·c words, an element of out for each
  pub wide : (plan : Plan) (f : ℕ → Ext) (m : ℕ) → 0 < plan.columns → plan.columns ≤ most_on plan.side
      → out_of plan f m ≡ plain_at plan (width plan) f m
  -- and column j of its places is the fold of column j
  pub single : (plan : Plan) (f : ℕ → Ext) (i j : ℕ) → place_of plan f i j ≡ plain_at plan (places plan) (column_of plan f j) i
