-- `work::accumulate` meets its contract: by block h and what it gains. Assumes nothing.
use Rattle.std.proofs.Common.{◌≡◌, ◌^◌, ◌<◌, arith}
use Rattle.work.specs.Work.{first}
use Rattle.work.proofs.Accumulating.{start, reaches, reduced, turn, finish}
use Rattle.work.proofs.accumulate.Goals as goal

pub loop-h-init : goal.loop-h-init
loop-h-init c = start _ _ _ _

pub gain-requires : goal.gain-requires
gain-requires c =
    let b : c.loop-h.h < 2 ^ first c.args.k = omega (arith, c.tables.ensures.first_size) in
    record {
      reaches = reaches _ _ _ _ c.tables.ensures c.requires.1 c.loop-h.invariant b;
      reduced = reduced _ _ _ _ c.tables.ensures c.requires.1 c.loop-h.invariant b;
    }

pub loop-h-preserved : goal.loop-h-preserved
loop-h-preserved c =
    let b : c.loop-h.h < 2 ^ first c.args.k = omega (arith, c.tables.ensures.first_size) in
    turn _ _ _ _ c.tables.ensures c.requires.1 c.loop-h.invariant b c.read.ensures c.mul-seed.ensures
    (rw c.new.ensures at c.gain.ensures)

pub returns : goal.returns
returns c =
    let q : c.loop-h.h ≡ 2 ^ first c.args.k = omega (arith, c.tables.ensures.first_size) in
    finish _ _ _ _ _ c.loop-h.invariant q c.requires.1
