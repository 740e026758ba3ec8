-- The weights of few rows, from a block's table. No operation that users call cites it. Assumes nothing.
use Rattle.std.specs.Prelude.{◌≡◌, cond, ℕ, ◌-◌, ◌<◌, List, length, ltb}
use Rattle.field.specs.Field.{Ext, field, Holds}
use Rattle.field.specs.declared.Element.{Element}
use Rattle.table.specs.Table.{element_at}
use Rattle.kernel.specs.Kernel.{weight_at}

-- the weight of row y: what the block's table has `skip` rows before
unfoldable pub weight_of : List ℕ → ℕ → ℕ → Ext
weight_of block skip y = cond (ltb y skip) field.zero (element_at block (y - skip))

-- those of n rows
pub record Weighed (n : ℕ) (block : List ℕ) (skip : ℕ) (weights : List Element) : Type 0 where
  pub len : length weights ≡ n
  pub each : (y : ℕ) → y < n → Holds (weight_at weights y) (weight_of block skip y)
