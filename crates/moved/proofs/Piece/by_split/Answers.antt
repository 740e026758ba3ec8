-- No words. Assumes nothing.
use Rattle.moved.proofs.PlaceByPlace.{nothing}
use Rattle.moved.proofs.Piece.by_split.Goals as goal

pub returns-then-self-eq0 : goal.returns-then-self-eq0
returns-then-self-eq0 g c = nothing c.args.self.now c.requires.0 c.if-self-eq0.true
