-- What the inner functions take and give. No operation that users call cites it. Assumes nothing.
use Rattle.std.specs.Prelude.{ℕ}

-- 2³²
abbrev pub unit : ℕ
unit = 4294967296
