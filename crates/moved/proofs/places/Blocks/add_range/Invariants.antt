-- The places before i gained. Assumes nothing.
use Rattle.multilinear.specs.declared.Side.TheVariants.{Suffix}
use Rattle.moved.specs.Moved.{moved_by}
use Rattle.moved.proofs.PlaceByPlace.{Done}
use Rattle.moved.proofs.places.Blocks.add_range.Given as goal

abbrev pub invariant-loop-i : goal.invariant-loop-i
invariant-loop-i g l = Done (moved_by Suffix l.self.piece) l.initial.i l.i-end l.fn.out l.out l.i
