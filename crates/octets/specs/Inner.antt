-- What the inner functions give. No operation that users call cites it. Assumes nothing.
use Rattle.std.specs.Prelude.{ℕ, List, [], ◌∷◌}
use Rattle.octets.specs.Octets.{octets}

-- the bytes of one word
abbrev pub four_of : ℕ → List ℕ
four_of w = octets (w ∷ [])
