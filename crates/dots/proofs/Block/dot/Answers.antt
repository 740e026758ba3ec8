-- `Block::dot` meets its contract. Assumes nothing.
use Rattle.std.proofs.Common.{rules, ◌+◌, ◌*◌, ◌/◌, ◌%◌, ◌≤◌, length, arith}
use Rattle.dots.specs.Inner.{most_gains}
use Rattle.dots.proofs.Columns.{spanned_none, spanned_room}
use Rattle.dots.proofs.Spanning.{spans, spanned_holds, few_dots, few_holds}
use Rattle.dots.proofs.Block.dot.Goals as goal

pub dot_few-requires : goal.dot_few-requires
dot_few-requires g c = (few_dots c.args.self.now.same c.args.from c.args.words.now c.requires.there c.requires.below (omega arith), c.if-words-le-FEW.true)

pub returns-then-words-le-FEW : goal.returns-then-words-le-FEW
returns-then-words-le-FEW g c = few_holds c.args.self.now.same c.args.from c.args.words.now c.requires.there c.requires.below (omega arith) c.dot_few.ensures

pub invariant_of-span : goal.invariant_of-span
invariant_of-span g c = record { spans = spans c.args.self.now.same c.args.from c.args.words.now c.requires.there c.requires.below }

pub sums-fours-requires : goal.sums-fours-requires
sums-fours-requires g c = (search rules, ((omega arith, omega arith), (omega arith, spanned_none c.none.ensures)))

pub settle-requires : goal.settle-requires
settle-requires g c =
    let n = length c.args.words.now in
    let q : 4 * (n / 4) + 1 * (n % 4) ≤ most_gains = omega (arith, c.requires.there, c.args.self.now.same.whole.few) in
    spanned_room _ q c.sums-all.ensures

pub returns : goal.returns
returns g c = rw c.settle.ensures (spanned_holds c.args.self.now.same c.args.from c.args.words.now c.requires.there c.requires.below (omega arith) c.sums-all.ensures)
