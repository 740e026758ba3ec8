-- `fixing::parts::add` meets its contract: the first of a pair is at or past the entry that is written. Assumes nothing.
use Rattle.std.proofs.Common.{◌≡◌, ◌+◌, ◌*◌, ◌<◌, length, arith}
use Rattle.fixing.proofs.Making.{turn}
use Rattle.fixing.proofs.Halving.{first_reduced, added}
use Rattle.fixing.proofs.parts.add.Goals as goal

pub add-sum-requires : goal.add-sum-requires
add-sum-requires g c = (
  first_reduced g.S.Step.rule c.args.more.now c.requires.pairs c.loop-i.invariant c.loop-i-test.true c.pair-first.ensures c.get.ensures,
  rw c.get-in-loop-i.ensures (c.requires.summands.below _ (omega arith)),
)

pub loop-i-preserved : goal.loop-i-preserved
loop-i-preserved g c =
    let fits : 4 * (c.args.from + c.loop-i.i) + 3 < length c.args.entries.now =
    omega (arith, c.requires.pairs.within, c.requires.pairs.table.count, c.loop-i-test.true) in
    let next : c.args.from + c.loop-i.i + 1 ≡ c.args.from + (c.loop-i.i + 1) = omega arith in
    rw next at
    (turn c.loop-i.invariant (omega arith) fits
    (added g.S.Step.rule c.args.more.now c.requires.pairs c.loop-i.invariant c.loop-i-test.true c.pair-first.ensures c.get.ensures
    c.get-in-loop-i.ensures c.add-sum.ensures)
    c.put.ensures)

pub returns : goal.returns
returns g c =
    let q : c.loop-i.i ≡ c.args.n = omega arith in
    rw q at c.loop-i.invariant
