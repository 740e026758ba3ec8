-- The sums by blocks of scale·eq make scale times the value, and with a scale of one the value. Assumes nothing.
use mathlib.Core.Path.{◌≡◌, ap}
use Prim.Native.Nat.{ℕ, ◌+◌, ◌-◌, ◌^◌, ◌≤◌}
use native.Mathlib.Nat.{zero-add}
use native.Mathlib.Omega.{arith}
use mathlib.Core.List.{List, ◌++◌}
use lib.ListN.{length}
use Rattle.algebra.proofs.Ring.{one_mul}
use Rattle.multilinear.specs.Values.{value_at}
use Rattle.multilinear.proofs.Values.{value_ext}
use Rattle.multilinear.proofs.Rows.{value_blocks}
use Rattle.field.specs.Field.{Ext, field, base, from_words, Holds}
use Rattle.field.specs.declared.Element.{Element}
use Rattle.field.proofs.Laws.{field_ring, read_as}
use Rattle.table.specs.Table.{element_at, elements, placed}
use Rattle.table.proofs.Laws.{elements_length}
use Rattle.table.proofs.Parts.{elements_cut}
use Rattle.table.proofs.Placed.{placed_zero}
use Rattle.point.specs.declared.Point.{Point}
use Rattle.weigh.specs.declared.blocks.SplitPoint.{SplitPoint}
use Rattle.weigh.specs.Entries.{WholeTable, word_at, table_value}
use Rattle.weigh.specs.Weigh.{NearlyWhole, Block, block_sum}
use Rattle.weigh.specs.Blocks.{Cut, blocks_value}

module _ {k low : ℕ} (there : low ≤ k) {point block : List ℕ} {s : Ext} (b : Block (k - low) low point s block) where
  abbrev us : List Ext
  us = elements point 0 (k - low)

  abbrev vs : List Ext
  vs = elements point (k - low) low

  whole : us ++ vs ≡ elements point 0 k
  whole = rw zero-add at (elements_cut point 0 there)

  pub weighed : (f : ℕ → Ext) → value_at field us (block_sum low block f) ≡ field.mul s (value_at field (elements point 0 k) f)
  unfolding block_sum
  weighed f =
      rw whole at
      (rw (elements_length point (k - low) low) at (value_blocks field_ring us vs s (element_at block) f))
      b.holds

module _ (point : Point) {low : ℕ} (there : low ≤ point.count) {block : List ℕ} {size : ℕ} {split : SplitPoint size} (cut : Cut point low block split) where
  all : split.high.count + split.low ≡ point.count
  all = omega (arith, cut.count, cut.low)

  pub words_fit : {words : List ℕ} → NearlyWhole point.count words → 0 + length words ≤ 2 ^ (split.high.count + split.low)
  words_fit w = rw all (omega (arith, w.fits))

  pub entries_whole : {ws : List ℕ} → WholeTable 4 point.count ws → WholeTable 4 (split.high.count + split.low) ws
  entries_whole w = rw all w

  module _ {s : Ext} (b : Block (point.count - low) low point.words.now s block) where
    weighed_rows : (f : ℕ → Ext) → blocks_value split f ≡ field.mul s (value_at field (elements point.words.now 0 point.count) f)
    weighed_rows f = rw (cut.words, cut.count, cut.low, cut.block) (weighed there b f)

    pub weighed_words : (words : List ℕ) {x : Element} → Holds x (blocks_value split (λ y. base (placed 0 words y)))
        → Holds x (field.mul s (table_value word_at point words))
    weighed_words words d =
        rw (
          weighed_rows (λ y. base (placed 0 words y)),
          value_ext field_ring (elements point.words.now 0 point.count) _ _ (λ y c. ap base (placed_zero words y)),
        ) at d

    pub weighed_elements : (ws : List ℕ) {x : Element} → Holds x (blocks_value split (element_at ws))
        → Holds x (field.mul s (table_value element_at point ws))
    weighed_elements ws d = rw (weighed_rows (element_at ws)) at d

pub unscaled : (one : Element) (v : Ext) {x : Element} → Holds one field.one → Holds x (field.mul (from_words one) v) → Holds x v
unscaled one v h d = rw (read_as _ h, one_mul field_ring v) at d
