-- No words, and the blocks of pieces of four sizes. Assumes nothing.
use Rattle.std.proofs.Common.{refl, arith}
use Rattle.moved.proofs.PlaceByPlace.{nothing, served_by}
use Rattle.moved.proofs.Piece.by_places.Goals as goal

pub returns-then-self-eq0 : goal.returns-then-self-eq0
returns-then-self-eq0 c = nothing c.args.self.now c.requires c.if-self-eq0.true

pub by_blocks-requires : goal.by_blocks-requires
by_blocks-requires c = (
  (c.requires, omega (arith, c.if-self-eq0.false)),
  served_by c.args.self.now {n = 2} {words = 16} (omega arith) (omega arith) refl c.min.ensures,
)

pub by_blocks-requires-then-n-lt-MIDDLE : goal.by_blocks-requires-then-n-lt-MIDDLE
by_blocks-requires-then-n-lt-MIDDLE c = (
  (c.requires, omega (arith, c.if-self-eq0.false)),
  served_by c.args.self.now {n = 4} {words = 64} (omega arith) (omega arith) refl c.min-then-n-lt-MIDDLE.ensures,
)

pub by_blocks-requires-then-n-lt-LONG : goal.by_blocks-requires-then-n-lt-LONG
by_blocks-requires-then-n-lt-LONG c = (
  (c.requires, omega (arith, c.if-self-eq0.false)),
  served_by c.args.self.now {n = 6} {words = 256} (omega arith) (omega arith) refl c.min-then-n-lt-LONG.ensures,
)
