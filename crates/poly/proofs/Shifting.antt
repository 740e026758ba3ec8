-- The loop of `shift`: how it starts, steps and ends. Assumes nothing.
use mathlib.Core.Path.{◌≡◌, refl, ◌∙◌}
use Prim.Native.Nat.{ℕ, ◌+◌, ◌-◌, ◌≤◌, ◌<◌}
use native.Mathlib.Omega.{arith}
use mathlib.Core.List.{List}
use Rattle.std.proofs.Common.{add-one}
use Rattle.field.specs.Field.{field, Holds}
use Rattle.field.specs.declared.Element.{Element}
use Rattle.table.specs.Table.{get_at, put_at, element_at, table_words}
use Rattle.table.proofs.Laws.{get_put_other}
use Rattle.table.proofs.Tests.{holds_at}
use Rattle.table.proofs.Writing.{Written, start as written_none, turn as written_more, finish as written_all}
use Rattle.poly.specs.Inner.{Weights, previous_at}

-- at the head of turn i: the elements before i are moved, those from i on are as they were, and `before` is the weight before i
pub record Shifting (i : ℕ) (ws w : List ℕ) (before : Element) : Type 0 where
  pub moved : Written (previous_at (element_at ws)) i ws w
  pub kept : (y : ℕ) → i ≤ y → get_at w y ≡ get_at ws y
  pub carried : Holds before (previous_at (element_at ws) i)

pub start : (ws : List ℕ) {z : Element} → Holds z field.zero → Shifting 0 ws ws z
start ws z = record { moved = written_none _ ws; kept = λ y h. refl; carried = z }

module _ (n : ℕ) {ws : List ℕ} (t : Weights n ws) where
  pub turn : (i : ℕ) (w : List ℕ) {before kept : Element} {w' : List ℕ} → Shifting i ws w before → i < n → kept ≡ get_at w i
      → w' ≡ put_at w i before → Shifting (i + 1) ws w' kept
  turn i w {before} s h a b =
      record {
        moved = written_more _ i ws w s.moved (omega (arith, t.count)) s.carried b;
        kept = λ y l. rw b (get_put_other w i before y (λ q. omega arith) ∙ s.kept y (omega arith));
        carried = rw add-one (holds_at ws t.below i (a ∙ s.kept i (omega arith)));
      }

  pub moved : {w : List ℕ} {before : Element} → Shifting n ws w before → w ≡ table_words n (previous_at (element_at ws))
  moved s = written_all _ n s.moved t.count

  pub last : {w : List ℕ} {before : Element} → Shifting n ws w before → Holds before (element_at ws (n - 1))
  last s = let q : n ≡ (n - 1) + 1 = omega (arith, t.some) in rw add-one at (rw q at s.carried)
