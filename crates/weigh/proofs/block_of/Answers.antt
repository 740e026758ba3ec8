-- The table of the last coordinates, in words that were cleared. Assumes nothing.
use Prim.Native.Nat.{◌-◌}
use native.Mathlib.Nat.{add-zero}
use native.Mathlib.Omega.{arith}
use mathlib.Core.Path.{◌≡◌}
use Rattle.table.proofs.Parts.{elements_drop}
use Rattle.weigh.proofs.Filling.{cleared, made}
use Rattle.weigh.proofs.block_of.Goals as goal

pub returns : goal.returns
returns g c =
    let p = c.args.point in
    let l : c.after.result.count ≡ c.args.low = omega (arith, c.after.ensures.count, c.requires.1) in
    let skipped = elements_drop (p.count - c.args.low) 0 c.args.low p.words.now in
    made _ _ _ _ _ _ (cleared g.row.WORDS c.requires.2) c.rows-words.ensures
    (rw (c.after.ensures.words, l, skipped, add-zero) at c.fill.ensures)
