-- The loop of `accumulate` at block h: how it starts, steps and ends. Assumes nothing.
use Rattle.std.proofs.Common.{◌≡◌, ap, ◌∙◌, ℕ, ◌+◌, ◌*◌, ◌^◌, ◌≤◌, ◌<◌, List, arith}
use native.Mathlib.Nat.{zero-add, zero-mul, suc-mul}
use Rattle.field.specs.Field.{Ext, field, from_words, Reduced, Holds}
use Rattle.field.specs.declared.Element.{Element}
use Rattle.field.proofs.Laws.{field_ring, read_as}
use Rattle.table.specs.Table.{get_at, element_at, entries}
use Rattle.table.specs.Gained.{Gained}
use Rattle.table.proofs.Gaining.{none, blocks, gained_table}
use Rattle.table.proofs.Tests.{reduced_at}
use Rattle.multiplier.specs.Tables.{Reaches}
use Rattle.work.specs.Work.{first, others}
use Rattle.work.specs.Inner.{Apart, row_weight, accumulated, Open}
use Rattle.work.proofs.Weights.{rows_of, edge, block_weight}

module _ (k : ℕ) (work : List ℕ) (given : Ext) (ws : List ℕ) where
  -- what row y gains
  abbrev gain_at : ℕ → Ext
  gain_at y = field.mul given (row_weight k work y)

  -- the rows of the first h blocks have gained
  abbrev pub Blocks : ℕ → List ℕ → Type 0
  Blocks h w = Gained 0 (h * 2 ^ others k) gain_at ws w

  pub start : Blocks 0 ws
  start = rw zero-mul (none 0 gain_at ws)

  pub finish : (h : ℕ) {w : List ℕ} → Blocks h w → h ≡ 2 ^ first k → Open k ws → w ≡ accumulated k work given ws
  finish h {w} d q o =
      let all : h * 2 ^ others k ≡ 2 ^ k = ap (λ (x : ℕ). x * 2 ^ others k) q ∙ rows_of k in
      gained_table (2 ^ k) gain_at ws w (rw all at d) o.room

  module _ {eq0 eq1 : List ℕ} (p : Apart k work eq0 eq1) (o : Open k ws) {h : ℕ} {w : List ℕ} (d : Blocks h w) (b : h < 2 ^ first k) where
    block_rows : entries eq1 ≡ 2 ^ others k
    block_rows = omega (arith, p.others_size)

    pub fits : h * entries eq1 + entries eq1 ≤ 2 ^ k
    fits = rw block_rows (edge k h b)

    pub reaches : Reaches (h * entries eq1) eq1 w
    reaches = record { fits = omega (arith, fits, d.len, o.room); below = p.others_below }

    pub reduced : (y : ℕ) → y < entries eq1 → Reduced (get_at w (h * entries eq1 + y))
    reduced y l = reduced_at w (d.below o.below) _

    -- of the values that the calls give
    module _ {a seed : Element} (e₁ : Holds a (element_at eq0 h)) (e₂ : Holds seed (field.mul given (from_words a))) where
      gains : (i : ℕ) → i < 2 ^ others k
          → field.mul (from_words seed) (element_at eq1 i) ≡ field.mul given (row_weight k work (h * 2 ^ others k + i))
      gains i l =
          rw (read_as _ e₂, read_as _ e₁, p.first_at h b, p.others_at i, block_weight k h i work l) (field_ring.mul_assoc _ _ _)

      pub turn : {w' : List ℕ} → Gained (h * entries eq1) (entries eq1) (λ y. field.mul (from_words seed) (element_at eq1 y)) w w'
          → Blocks (h + 1) w'
      turn {w'} g =
          let s : (h + 1) * 2 ^ others k ≡ h * 2 ^ others k + 2 ^ others k = omega (arith, suc-mul h (2 ^ others k)) in
          rw s (blocks 0 (h * 2 ^ others k) (2 ^ others k) _ gain_at ws w w' d (rw zero-add (rw block_rows at g)) gains)
