-- `work::fill` meets its contract: the two parts that were lent make the buffer. Assumes nothing.
use native.Mathlib.Nat.{add-zero}
use Rattle.table.proofs.Parts.{elements_drop}
use Rattle.work.proofs.Filling.{filled}
use Rattle.work.specs.Work.{first, others}
use Rattle.work.proofs.fill.Goals as goal

pub returns : goal.returns
returns c =
    let k = c.args.point.count in
    let skipped = elements_drop (first k) 0 (others k) c.args.point.words.now in
    filled _ _ _ c.requires.1 c.rows-a.ensures _ _ _ c.fill.auto.out _ c.one.ensures
    (rw (c.first.ensures.words, c.first.ensures.count) at c.fill.ensures)
    (rw (c.after.ensures.words, c.after.ensures.count, skipped, add-zero) at c.fill-2.ensures)
