-- The places before a word. Assumes nothing.
use Rattle.piece.specs.Inner.{reached}
use Rattle.piece.proofs.own.Stand.reach.Goals as goal

pub returns : goal.returns
unfolding reached
returns c = rw (c.min.ensures, c.div_ceil.ensures, c.saturating_sub.ensures)
