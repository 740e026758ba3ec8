-- A vertex fits a u64, so none is at or above 2^64. Assumes nothing.
use Rattle.std.specs.Prelude.{◌^◌, ◌≤◌}
use mathlib.Core.Path.{sym}
use native.Mathlib.Omega.{arith}
use borrow.Author.Tests.{lt-leb}
use lib.Pow.{pow_mono}
use Rattle.point.proofs.equality.is_beyond.Goals as goal

pub returns-then-k-gt63 : goal.returns-then-k-gt63
returns-then-k-gt63 c =
    let many : 2 ^ 64 ≤ 2 ^ c.args.k = pow_mono c.if-k-gt63.true in
    sym (lt-leb (2 ^ c.args.k) c.args.vertex (omega (arith, c.ranges.vertex.fits)))
