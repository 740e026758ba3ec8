-- A coordinate more, in front; below 2^k the sum by bits is that of the rows. Assumes nothing.
use mathlib.Core.Path.{◌≡◌}
use Prim.Native.Nat.{ℕ, ◌^◌, ◌<◌}
use native.Mathlib.Omega.{arith}
use mathlib.Core.List.{List}
use lib.ListN.{length}
use Rattle.field.specs.Field.{field, Holds}
use Rattle.field.specs.declared.Element.{Element}
use Rattle.field.proofs.Laws.{field_ring}
use Rattle.table.specs.Table.{elements}
use Rattle.table.proofs.Laws.{elements_length}
use Rattle.multilinear.specs.declared.Weight.TheVariants.{Plain}
use Rattle.multilinear.specs.Tails.{tail_at}
use Rattle.multilinear.specs.Inner.{tail_by}
use Rattle.multilinear.proofs.Tails.{tail_by_lem}
use Rattle.point.proofs.Climbing.{tail_climbs, start, turn, finish}
use Rattle.point.proofs.equality.from_row.Goals as goal

as_tail : (ps : List ℕ) (k row : ℕ) (e : Element) → row < 2 ^ k → Holds e (tail_by field (elements ps 0 k) row)
    → Holds e (tail_at field Plain (elements ps 0 k) row)
as_tail ps k row e h v =
    let b : row < 2 ^ length (elements ps 0 k) = rw (elements_length ps 0 k) h in
    rw (tail_by_lem field_ring (elements ps 0 k) row b) at v

pub loop-j-init : goal.loop-j-init
loop-j-init c = start tail_climbs _ _ _ _ c.one-sum.ensures

pub loop-j-preserved : goal.loop-j-preserved
loop-j-preserved c =
    turn tail_climbs _ _ _ _ _ _ c.loop-j.invariant c.loop-j-test.true _ c.read-c.ensures c.tail_step-sum.ensures

pub returns : goal.returns
returns c =
    let q : c.loop-j.j ≡ 0 = omega arith in
    as_tail _ _ _ _ c.requires (finish tail_climbs _ _ _ _ _ _ c.loop-j.invariant q)
