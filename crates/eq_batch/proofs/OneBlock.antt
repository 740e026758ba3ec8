-- A point of one block in `add_point`: the block's table is that of all its coordinates. Assumes nothing.
use mathlib.Core.Path.{◌≡◌, ap, ap₂, ◌∙◌}
use mathlib.Core.Bool.{false}
use Prim.Native.Nat.{ℕ, ◌-◌, ◌*◌, ◌^◌, ◌≤◌, ◌<◌}
use native.Mathlib.Omega.{arith}
use mathlib.Core.List.{List}
use lib.ListN.{take}
use lib.Seq.{length-take-le}
use Rattle.algebra.specs.Words.{unreduced}
use Rattle.algebra.proofs.Words.{unreduced_take}
use Rattle.field.specs.Field.{p, p_pos, field, from_words}
use Rattle.field.specs.declared.Element.{Element}
use Rattle.multilinear.specs.Equality.{eq_at}
use Rattle.table.specs.Table.{element_at, entries, elements}
use Rattle.table.specs.Gained.{Gained}
use Rattle.table.proofs.Parts.{get_take}
use Rattle.table.proofs.Gaining.{gained_as}
use Rattle.weigh.specs.Weigh.{Block}
use Rattle.eq_batch.specs.Inner.{Elements, scaled_at}

-- no coordinates before the last low
module _ {n low rows : ℕ} (few : low ≤ n) (none : n - low ≡ 0) (rows_are : rows ≡ 2 ^ low) where
  all : low ≡ n
  all = omega (arith, few, none)

  module _ {point block : List ℕ} (scale : Element) (t : Block (n - low) low point (from_words scale) block) where
    abbrev table : List ℕ
    table = take (4 * rows) block

    count : entries table ≡ 2 ^ n
    count = omega (arith, length-take-le (4 * rows) block (omega (arith, t.room.enough, rows_are)), rows_are, ap (λ k. 2 ^ k) all)

    -- its rows are below p, and out has a place for each
    pub placed : {ws : List ℕ} → Elements 0 (2 ^ n) ws → (unreduced p table ≡ false) × Elements 0 (entries table) ws
    placed r = (unreduced_take p p_pos (4 * rows) block t.room.below, rw count r)

    row : (y : ℕ) → y < 2 ^ n → element_at table y ≡ scaled_at scale (elements point 0 n) y
    row y h =
        let l : y < 2 ^ low = rw all h in
        ap from_words (get_take rows y block (omega (arith, rows_are, l))) ∙ t.holds y l
        ∙ ap₂ (λ a m. field.mul (from_words scale) (eq_at field (elements point a m) y)) none all

    pub gained : {ws w : List ℕ} → Gained 0 (entries table) (element_at table) ws w
        → Gained 0 (2 ^ n) (scaled_at scale (elements point 0 n)) ws w
    gained d = gained_as _ (rw count at d) row
