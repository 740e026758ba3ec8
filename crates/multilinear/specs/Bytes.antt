-- The bytes that stand for a side and a weight. Assumes nothing.
use Rattle.std.specs.Prelude.{◌≡◌, ℕ, ◌<◌, Result, MatchResult}
use Rattle.multilinear.specs.declared.Side.{Side}
use Rattle.multilinear.specs.declared.Side.TheVariants.{Prefix, Suffix}
use Rattle.multilinear.specs.declared.Weight.{Weight}
use Rattle.multilinear.specs.declared.Weight.TheVariants.{Plain, Shifted, Next, Cyclic}
use Rattle.multilinear.specs.declared.UnknownByte.{UnknownByte}

-- "side (00 prefix, 01 suffix)"
abbrev pub side_byte : Side → ℕ
side_byte Prefix = 0
side_byte Suffix = 1

-- "weight (00 plain, 01 shifted, 02 next)", and "frame value 03" of the cyclic one
abbrev pub weight_byte : Weight → ℕ
weight_byte Plain = 0
weight_byte Shifted = 1
weight_byte Next = 2
weight_byte Cyclic = 3

-- the side that has this byte, or an error with a byte that none has
abbrev pub SideFrom : ℕ → Result Side UnknownByte → Type 0
SideFrom byte r = MatchResult r (λ side. side_byte side ≡ byte) (λ e. (e.0 ≡ byte) × (1 < byte))

-- the weight that has this byte, or an error with a byte that none has
abbrev pub WeightFrom : ℕ → Result Weight UnknownByte → Type 0
WeightFrom byte r = MatchResult r (λ weight. weight_byte weight ≡ byte) (λ e. (e.0 ≡ byte) × (3 < byte))
