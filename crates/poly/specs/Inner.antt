-- What the inner functions take and give. No operation that users call cites it. Assumes nothing.
use Rattle.std.specs.Prelude.{◌≡◌, false, not, cond, ℕ, zero, suc, ◌-◌, ◌*◌, ◌/◌, ◌%◌, ◌<◌, List, ◌∷◌, eqb, length}
use Rattle.algebra.specs.Words.{unreduced}
use Rattle.field.specs.Field.{p, Ext, field}
use Rattle.table.specs.Refusals.{Test, ◌gives◌, splits}
use Rattle.poly.specs.Values.{value_tests}

-- ws is a table of n weights, n above 0
pub record Weights (n : ℕ) (ws : List ℕ) : Type 0 where
  pub some : 0 < n
  pub count : length ws ≡ 4 * n
  pub below : unreduced p ws ≡ false

-- of the weights f of n rows: 0 at row 0, f (y - 1) at row y, and the last row's once more at row `own`
abbrev pub previous_at : (ℕ → Ext) → ℕ → Ext
previous_at f zero = field.zero
previous_at f (suc y) = f y

abbrev pub successor_at : ℕ → ℕ → (ℕ → Ext) → ℕ → Ext
successor_at own n f y = cond (eqb y own) (field.add (previous_at f y) (f (n - 1))) (previous_at f y)

-- the tests of an evaluation of a table of `width` words an entry
abbrev pub table_tests : ℕ → List ℕ → List ℕ → List Test
table_tests width table point =
    not (eqb (length table % width) 0) gives 1 ∷ splits point gives 1 ∷ value_tests (length table / width) table point
