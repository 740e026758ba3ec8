-- `fixing::parts::take` meets its contract: by the pair of each entry. Assumes nothing.
use Rattle.std.proofs.Common.{◌≡◌, ◌∙◌, ◌+◌, arith}
use Rattle.table.proofs.Laws.{table_whole}
use Rattle.fixing.specs.Inner.{taken_at}
use Rattle.fixing.proofs.Making.{turn}
use Rattle.fixing.proofs.Halving.{taken_holds}
use Rattle.fixing.proofs.parts.take.Goals as goal

pub loop-i-preserved : goal.loop-i-preserved
loop-i-preserved g c =
    turn c.loop-i.invariant (omega arith) (omega (arith, c.requires.fits, c.loop-i-test.true))
    (taken_holds g.S.Step.rule c.args.h c.args.entries.now _ c.pair-first.ensures c.get.ensures c.get-in-loop-i.ensures c.taken-taken.ensures)
    c.put.ensures

pub returns : goal.returns
returns g c =
    let q : c.loop-i.i ≡ c.args.n = omega arith in
    let d = rw q at c.loop-i.invariant in
    table_whole c.args.n (λ i. taken_at g.S.Step.rule c.args.h c.args.entries.now (c.args.from + i)) c.loop-i.room
    (d.len ∙ c.requires.fits)
    (λ y b. d.done y b (omega arith))
