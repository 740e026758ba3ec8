-- The bytes of the first words stand in front.
use Rattle.std.proofs.Common.{◌≡◌}
use Rattle.octets.proofs.Encoding.{front}
use Rattle.octets.proofs.encode.Given as goal

abbrev pub invariant-loop-i : goal.invariant-loop-i
invariant-loop-i l = l.bytes ≡ front l.ws l.fn.bytes l.i
