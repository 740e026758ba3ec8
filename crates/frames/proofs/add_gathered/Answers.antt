-- The words go to the session's part of out, and the last of each place is kept. Assumes nothing.
use Rattle.std.proofs.Common.{sym, arith}
use lib.Seq.{length-take-le}
use Rattle.frames.proofs.Keeping.{used_fits, hands, hands_keeps}
use Rattle.frames.proofs.Gathering.{added_gathers, added_same}
use Rattle.frames.proofs.add_gathered.Goals as goal

pub slice_bounds-add-end : goal.slice_bounds-add-end
slice_bounds-add-end c = omega (arith, c.width-used.ensures, used_fits c.requires.ready)

pub slice_bounds-add-end-2 : goal.slice_bounds-add-end-2
slice_bounds-add-end-2 c = sym (length-take-le _ _ (omega (arith, c.width-used.ensures, used_fits c.requires.ready)))

pub add-requires : goal.add-requires
add-requires c =
    let n = c.as_slice-words.ensures.items in
    rw (c.width-used.ensures, n) (hands c.requires.ready (omega (arith, c.requires.counted, c.requires.ready.within)) c.requires.below)

pub keep-requires : goal.keep-requires
keep-requires c = hands_keeps _ _ c.requires.ready c.requires.last_ready

pub returns-clause-same : goal.returns-clause-same
returns-clause-same c =
    rw (c.add.ensures, c.keep.ensures, c.width-used.ensures, c.as_slice-words.ensures.items) (added_same c.requires c.clear.ensures)

pub returns-clause-gathers : goal.returns-clause-gathers
returns-clause-gathers c =
    rw (c.add.ensures, c.keep.ensures, c.width-used.ensures, c.as_slice-words.ensures.items) (added_gathers c.requires c.clear.ensures)
