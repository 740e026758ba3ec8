-- `Span::sums` meets its contract. Assumes nothing.
use Rattle.std.proofs.Common.{rules, ◌+◌, ◌*◌, ◌≤◌, length, arith}
use Rattle.dots.proofs.Columns.{begin, room, turn, ended, turns_few}
use Rattle.dots.proofs.Spanning.{words_few}
use Rattle.dots.proofs.quarters.Span.sums.Goals as goal

pub loop-j-init : goal.loop-j-init
loop-j-init g c = begin g.row.M c.requires.spanned

pub gain-more-requires : goal.gain-more-requires
gain-more-requires g c =
    let n : c.args.start + g.row.M * c.loop-j.j ≤ length c.args.self.words.now =
    turns_few c.args.start g.row.M c.requires.there (omega (arith, c.loop-j-test.true)) in
    (search rules, (search rules, room g.row.M c.loop-j.invariant (omega (arith, n, words_few c.args.self.spans))))

pub loop-j-preserved : goal.loop-j-preserved
loop-j-preserved g c = turn g.row.M c.loop-j.invariant c.requires.parts.0 c.gains.ensures c.gain-more.ensures

pub returns : goal.returns
returns g c = ended g.row.M c.loop-j.invariant (omega arith)
