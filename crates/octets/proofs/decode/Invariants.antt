-- The first words are decoded.
use Rattle.std.proofs.Common.{◌≡◌, ◌+◌, ◌<◌, ℕ, get_or}
use Rattle.octets.specs.Octets.{word_at}
use Rattle.octets.proofs.decode.Given as goal

abbrev pub invariant-loop-i : goal.invariant-loop-i
invariant-loop-i l = (k : ℕ) → k < l.i → get_or l.ws k 0 ≡ word_at l.bytes (l.from + k)
