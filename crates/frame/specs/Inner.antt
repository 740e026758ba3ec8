-- What the functions take and give. No operation that users call cites it. Assumes nothing.
use Rattle.std.specs.Prelude.{◌≡◌, true, ℕ, ◌/◌, List, length}
use Rattle.frame.specs.Hex.{is_hex}

-- a line of digits, and a byte for each two
pub record Spells (line bytes : List ℕ) : Type 0 where
  pub hex : is_hex line ≡ true
  pub count : length bytes ≡ length line / 2
