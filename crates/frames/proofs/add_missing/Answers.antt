-- The missing words go to the session's part of out. Assumes nothing.
use Rattle.std.proofs.Common.{sym, arith}
use lib.Seq.{length-take-le}
use Rattle.frames.proofs.Keeping.{used_fits, hands_last}
use Rattle.frames.proofs.add_missing.Goals as goal

pub slice_bounds-pad-end : goal.slice_bounds-pad-end
slice_bounds-pad-end c = omega (arith, c.width-used.ensures, used_fits c.requires.ready)

pub slice_bounds-pad-end-2 : goal.slice_bounds-pad-end-2
slice_bounds-pad-end-2 c = sym (length-take-le _ _ (omega (arith, c.width-used.ensures, used_fits c.requires.ready)))

pub pad-requires : goal.pad-requires
pad-requires c = rw c.width-used.ensures (hands_last _ _ c.requires.ready c.requires.last_ready)
