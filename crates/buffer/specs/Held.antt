-- What a buffer holds. Assumes nothing.
use Rattle.std.specs.Prelude.{ℕ, List}

-- the items; and beside them what a copy is made of: the room that they stand in, and their count
pub record Held (A : Type 0) : Type 0 where
  pub items : List A
  pub room : List A
  pub count : ℕ
