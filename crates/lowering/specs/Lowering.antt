-- The inverse of 2³² modulo p (`raised_lowered`). No operation that users call cites it. Assumes nothing.
use Rattle.std.specs.Prelude.{ℕ}

abbrev pub unit_inverse : ℕ
unit_inverse = 943718400
