-- `fixing::add_part` meets its contract: the pair that a turn reads is at or past the entry that it writes. Assumes nothing.
use Rattle.std.proofs.Common.{◌≡◌, refl, ℕ, ◌+◌, ◌≤◌, ◌<◌, List, rules, arith}
use Rattle.field.specs.Field.{field, Reduced}
use Rattle.field.specs.declared.Element.{Element}
use Rattle.fixing.specs.Inner.{Pairs, Joinable}
use Rattle.fixing.proofs.Combining.{reads, turn, pairs_by}
use Rattle.fixing.proofs.add_part.Goals as goal

joinable : {h from to : ℕ} {ws : List ℕ} → Pairs h from to ws → (i : ℕ) → from ≤ i → i < to
    → Joinable (λ (a : Element) (b : Element). Reduced a × Reduced b) i (i, h + i) ws
joinable t i l b =
    record {
      ahead = (omega arith, omega arith);
      room = (omega (arith, t.table.count, t.within), omega (arith, t.table.count, t.within));
      may = t.below i l b;
    }

pub add-requires : goal.add-requires
add-requires c =
    let t = joinable c.requires c.loop-i.i (omega arith) (omega arith) in
    rw (c.get-a0.ensures, c.get-a1.ensures) (reads c.loop-i.invariant t)

pub loop-i-preserved : goal.loop-i-preserved
loop-i-preserved c =
    let t = joinable c.requires c.loop-i.i (omega arith) (omega arith) in
    turn c.loop-i.invariant t (omega arith) (omega (arith, c.requires.table.count, c.requires.within)) refl
    (rw (← c.get-a0.ensures, ← c.get-a1.ensures) c.add.ensures) (search rules) c.put.ensures

pub returns : goal.returns
returns c =
    let q : c.loop-i.i ≡ c.args.to = omega (arith, c.requires.ordered) in
    pairs_by _ field.add (λ y j p. p) (λ a b e m. m) (rw q at c.loop-i.invariant)
