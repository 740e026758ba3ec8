-- The loop of `add_point` at block h: how it starts, steps and ends. Assumes nothing.
use mathlib.Core.Path.{◌≡◌, sym, ap, ap₂, ◌∙◌}
use Prim.Native.Nat.{ℕ, ◌+◌, ◌-◌, ◌*◌, ◌^◌, ◌≤◌, ◌<◌, min}
use native.Mathlib.Nat.{zero-add, zero-mul, suc-mul, mul-le-mul_right}
use native.Mathlib.Omega.{arith}
use mathlib.Core.List.{List, ◌++◌}
use lib.ListN.{length, take}
use lib.Seq.{length-take-le}
use lib.Pow.{pow-add}
use Rattle.algebra.proofs.Words.{unreduced_take}
use Rattle.field.specs.Field.{p, p_pos, Ext, field, from_words, Reduced, Holds}
use Rattle.field.specs.declared.Element.{Element}
use Rattle.field.proofs.Laws.{field_ring, read_as}
use Rattle.multilinear.specs.Equality.{eq_at}
use Rattle.multilinear.proofs.Split.{eq_split}
use Rattle.table.specs.Table.{get_at, element_at, entries, elements}
use Rattle.table.proofs.Laws.{elements_length}
use Rattle.table.specs.Gained.{Gained}
use Rattle.table.proofs.Parts.{elements_cut, get_take}
use Rattle.table.proofs.Gaining.{none, blocks}
use Rattle.multiplier.specs.Tables.{Reaches}
use Rattle.weigh.specs.Weigh.{Block}
use Rattle.eq_batch.specs.Inner.{Elements, scaled_at}
use Rattle.eq_batch.proofs.Rooms.{room_beyond}

-- the scale first
swap : (a s e : Ext) → field.mul a (field.mul s e) ≡ field.mul s (field.mul a e)
swap a s e = sym (field_ring.mul_assoc a s e) ∙ ap (λ x. field.mul x e) (field_ring.mul_comm a s) ∙ field_ring.mul_assoc s a e

-- n coordinates cut before the last low: the rows of a block, and the number of blocks
pub record Cut (n low rows end : ℕ) : Type 0 where
  pub few : low ≤ n
  pub rows_are : rows ≡ 2 ^ low
  pub end_is : end ≡ 2 ^ (n - low)

pub cut_of : (n m low rows end : ℕ) → low ≡ min n m → rows ≡ 2 ^ low → end ≡ 2 ^ (n - low) → Cut n low rows end
cut_of n m low rows end a b c = record { few = omega (arith, a); rows_are = b; end_is = c }

module _ {n low rows end : ℕ} (cut : Cut n low rows end) where
  pub joined : n - low + low ≡ n
  joined = omega (arith, cut.few)

  whole : end * rows ≡ 2 ^ n
  whole = rw (cut.end_is, cut.rows_are) (sym (pow-add 2 (n - low) low) ∙ ap (λ k. 2 ^ k) joined)

  -- block h lies within the table
  pub edge : (h : ℕ) → h < end → h * rows + rows ≤ 2 ^ n
  edge h b = omega (arith, whole, mul-le-mul_right rows b, suc-mul h rows)

module _ (point : List ℕ) (n : ℕ) (scale : Element) where
  pub start : (rows : ℕ) (ws : List ℕ) → Gained 0 (0 * rows) (scaled_at scale (elements point 0 n)) ws ws
  start rows ws = rw zero-mul (none 0 (scaled_at scale (elements point 0 n)) ws)

  module _ {low rows end : ℕ} (cut : Cut n low rows end) where
    abbrev us : List Ext
    us = elements point 0 (n - low)

    abbrev vs : List Ext
    vs = elements point (n - low) low

    parts : us ++ vs ≡ elements point 0 n
    parts = rw zero-add at (elements_cut point 0 cut.few)

    row : (h y : ℕ) → y < 2 ^ low → eq_at field (elements point 0 n) (h * rows + y) ≡ field.mul (eq_at field us h) (eq_at field vs y)
    row h y b =
        let l : 2 ^ length vs ≡ 2 ^ low = ap (λ (k : ℕ). 2 ^ k) (elements_length point (n - low) low) in
        ap₂ (λ zs m. eq_at field zs (h * m + y)) (sym parts) (cut.rows_are ∙ sym l) ∙ eq_split field_ring us vs h y (rw l b)

    module _ (h : ℕ) (ws w : List ℕ) (d : Gained 0 (h * rows) (scaled_at scale (elements point 0 n)) ws w) (b : h < end) where
      module _ {block : List ℕ} (t : Block (n - low) low point (from_words scale) block) where
        -- the block's table: the room has it at its front
        abbrev pub table : List ℕ
        table = take (4 * rows) block

        pub table_rows : entries table ≡ rows
        table_rows = omega (arith, length-take-le (4 * rows) block (omega (arith, t.room.enough, cut.rows_are)))

        -- element y of it
        scaled : (y : ℕ) → y < 2 ^ low → element_at table y ≡ field.mul (from_words scale) (eq_at field vs y)
        scaled y l = ap from_words (get_take rows y block (omega (arith, cut.rows_are))) ∙ t.holds y l

        module _ (r : Elements 0 (2 ^ n) ws) where
          beyond : Elements (h * rows) (2 ^ low) w
          beyond = room_beyond (h * rows) (2 ^ low) (2 ^ n) r d (omega (arith, edge cut h b, cut.rows_are))

          pub reaches : Reaches (h * rows) table w
          reaches =
              record { fits = omega (arith, table_rows, beyond.fits, cut.rows_are); below = unreduced_take p p_pos (4 * rows) block t.room.below }

          pub reduced : (y : ℕ) → y < entries table → Reduced (get_at w (h * rows + y))
          reduced y l = beyond.reduced y (omega (arith, table_rows, cut.rows_are))

        pub turn : (seed : Element) {w' : List ℕ} → Holds seed (eq_at field us h)
            → Gained (h * rows) (entries table) (λ y. field.mul (from_words seed) (element_at table y)) w w'
            → Gained 0 ((h + 1) * rows) (scaled_at scale (elements point 0 n)) ws w'
        turn seed {w'} f g =
            let s : (h + 1) * rows ≡ h * rows + 2 ^ low = omega (arith, suc-mul h rows, cut.rows_are) in
            let m : entries table ≡ 2 ^ low = table_rows ∙ cut.rows_are in
            rw s
            (blocks 0 (h * rows) (2 ^ low) _ (scaled_at scale (elements point 0 n)) ws w w' d (rw zero-add (rw m at g))
            (λ y l.
            ap₂ field.mul (read_as _ f) (scaled y l) ∙ swap (eq_at field us h) (from_words scale) (eq_at field vs y)
            ∙ ap (field.mul (from_words scale)) (sym (row h y l))))

    pub finish : (h : ℕ) {ws w : List ℕ} → Gained 0 (h * rows) (scaled_at scale (elements point 0 n)) ws w → h ≡ end
        → Gained 0 (2 ^ n) (scaled_at scale (elements point 0 n)) ws w
    finish h d z = rw (z, whole cut) at d
