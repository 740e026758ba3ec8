-- What `halves_ext` lends its calls, and what they give. Assumes nothing.
use mathlib.Core.Path.{◌≡◌}
use Prim.Native.Nat.{ℕ, suc, ◌+◌, ◌-◌, ◌*◌, ◌/◌, ◌^◌, ◌≤◌}
use native.Mathlib.Nat.{zero-add}
use native.Mathlib.Omega.{arith}
use mathlib.Core.List.{List}
use lib.ListN.{length, take}
use lib.Pow.{pow_mono}
use Rattle.algebra.specs.Sum.{sum_to}
use Rattle.multilinear.specs.Beside.{line}
use Rattle.field.specs.Field.{field, from_words, Holds}
use Rattle.field.specs.declared.Element.{Element}
use Rattle.table.specs.Table.{element_at}
use Rattle.table.proofs.Parts.{rest}
use Rattle.dots.specs.Dots.{Pairs}
use Rattle.weigh.specs.declared.blocks.SplitPoint.{SplitPoint}
use Rattle.weigh.specs.Entries.{WholeTable, elements_parted}
use Rattle.weigh.specs.Blocks.{After, part_value_ext}
use Rattle.weigh.proofs.TableHalves.{half_there as table_half, low_whole, high_whole, low_entry, high_entry}
use Rattle.weigh.proofs.Splitting.{one_block, more, joined}

module _ {size : ℕ} (a : SplitPoint size) {ws : List ℕ} (entries : WholeTable 4 (a.high.count + a.low) ws) where
  module _ (none : a.high.count ≡ 0) where
    abbrev rows : ℕ
    rows = length ws / 4

    count : length ws ≡ 4 * 2 ^ a.low
    count = rw (none, zero-add) at entries.count

    e : rows ≡ 2 ^ a.low
    e = omega (arith, count)

    pub pairs : Pairs rows a.block.table.now ws
    pairs =
        record {
          few = omega (arith, e, pow_mono a.summed.small);
          weights_there = omega (arith, e, a.summed.room.enough);
          entries_there = omega (arith, e, count);
          weights_below = a.summed.room.below;
          entries_below = entries.below;
        }

    pub paired : {x : Element} → Holds x (sum_to field rows (λ y. field.mul (element_at a.block.table.now y) (element_at ws y)))
        → Holds x (part_value_ext a ws)
    paired d = one_block a (element_at ws) none (rw e at d)

  module _ (left : a.high.count ≡ 0 → ⊥) {rest_is : SplitPoint size} (is : After 1 a rest_is) {half : ℕ} (e : half ≡ 2 ^ (a.high.count - 1 + a.low)) where
    abbrev one_less : a.high.count + a.low ≡ suc (a.high.count - 1 + a.low)
    one_less = more a left

    pub low_half : WholeTable 4 (rest_is.high.count + rest_is.low) (take (4 * half) ws)
    low_half = rw (is.high.count, is.low) (low_whole one_less e entries)

    pub high_half : WholeTable 4 (rest_is.high.count + rest_is.low) (rest half ws)
    high_half = rw (is.high.count, is.low) (high_whole one_less e entries)

    pub elements_joined : {at0 at1 r x : Element} → Holds at0 (part_value_ext rest_is (take (4 * half) ws))
        → Holds at1 (part_value_ext rest_is (rest half ws)) → Holds r (element_at a.high.words.now 0)
        → Holds x (line field (from_words at0) (from_words at1) (from_words r)) → Holds x (part_value_ext a ws)
    elements_joined =
        joined a left is (element_at ws) (element_at (take (4 * half) ws)) (element_at (rest half ws))
        (low_entry one_less e elements_parted ws) (λ y b. high_entry one_less e elements_parted ws y)

  -- the low half is there
  pub half_there : (a.high.count ≡ 0 → ⊥) → {half : ℕ} → half ≡ 2 ^ (a.high.count - 1 + a.low) → 4 * half ≤ length ws
  half_there left e = table_half (more a left) e entries
