-- `spread::fill_coordinate` meets its contract. Assumes nothing.
use Rattle.std.proofs.Common.{◌/◌, sym, ap, arith}
use lib.ListN.{get_or}
use Rattle.dots.proofs.Spreading.{more, place_there, placed_there, start, ended}
use Rattle.dots.proofs.spread.fill_coordinate.Goals as goal

pub loop-y-init : goal.loop-y-init
loop-y-init g c = start _ c.requires.before

pub loop-y-preserved : goal.loop-y-preserved
loop-y-preserved g c =
    let n = g.row.WORDS / 4 in
    more c.loop-y.invariant (place_there c.requires.whole.0 c.args.c c.loop-y.y c.requires.whole.1 c.loop-y-test.true)
    (sym (ap (λ i. get_or c.args.table.now i 0) (placed_there g.row.WORDS c.args.c c.loop-y.y c.loop-y-test.true))) (omega arith)

pub returns : goal.returns
returns g c = ended c.args.c (omega arith) c.loop-y.invariant
