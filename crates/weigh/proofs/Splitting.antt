-- The value of a table's sums by blocks, from those of the table's halves down to one block: one argument for words and for elements.
-- Assumes nothing.
use mathlib.Core.Path.{◌≡◌, refl, ap, ◌∙◌}
use Prim.Native.Nat.{ℕ, suc, ◌+◌, ◌-◌, ◌*◌, ◌^◌, ◌≤◌, ◌<◌}
use native.Mathlib.Nat.{add-mul, mul-le-mul_right}
use native.Mathlib.Omega.{arith}
use lib.Pow.{pow-add}
use Rattle.algebra.specs.Sum.{sum_to}
use Rattle.algebra.proofs.Sums.{sum_ext}
use Rattle.multilinear.specs.Values.{value_at}
use Rattle.multilinear.specs.Beside.{line}
use Rattle.field.specs.Field.{Ext, field, from_words, Holds}
use Rattle.field.specs.declared.Element.{Element}
use Rattle.field.proofs.Laws.{field_ring, read_as}
use Rattle.table.specs.Table.{element_at, elements}
use Rattle.weigh.specs.declared.blocks.SplitPoint.{SplitPoint}
use Rattle.weigh.specs.Weigh.{block_sum}
use Rattle.weigh.specs.Blocks.{After, blocks_value}
use Rattle.weigh.proofs.Halving.{one_more, twice_half, one_entry, rest_coordinates, rest_joined}

-- row l of block h is among the rows
pub within : (n low h l : ℕ) → h < 2 ^ n → l < 2 ^ low → h * 2 ^ low + l < 2 ^ (n + low)
within n low h l a b =
    let m : suc h * 2 ^ low ≤ 2 ^ n * 2 ^ low = mul-le-mul_right (2 ^ low) a in
    omega (arith, pow-add 2 n low)

-- a block of the second half is as many blocks further
further : (n low h l : ℕ) → 2 ^ (n + low) + (h * 2 ^ low + l) ≡ (2 ^ n + h) * 2 ^ low + l
further n low h l = omega (arith, pow-add 2 n low, add-mul (2 ^ n) h (2 ^ low))

-- against what is left of the high coordinates
pub after_value : {k size : ℕ} (a : SplitPoint size) {rest : SplitPoint size} → After k a rest → (f : ℕ → Ext)
    → blocks_value rest f ≡ value_at field (elements a.high.words.now k (a.high.count - k)) (block_sum a.low a.block.table.now f)
after_value a r f = rw (r.low, r.block, rest_coordinates a.high r.high) refl

pub some_left : {n : ℕ} → 0 < n → n ≡ 0 → ⊥
some_left h e = omega (arith, h, e)

module _ {size : ℕ} (a : SplitPoint size) where
  -- no coordinate is left: one block
  pub one_block : (f : ℕ → Ext) → a.high.count ≡ 0 → {x : Element}
      → Holds x (sum_to field (2 ^ a.low) (λ l. field.mul (element_at a.block.table.now l) (f l))) → Holds x (blocks_value a f)
  unfolding block_sum
  one_block f e d =
      one_entry a.high.words.now 0 (block_sum a.low a.block.table.now f) e (rw (sum_ext field_ring (2 ^ a.low) _ _ (λ l b. first l)) d)
    where
      first : (l : ℕ) → field.mul (element_at a.block.table.now l) (f (0 * 2 ^ a.low + l)) ≡ field.mul (element_at a.block.table.now l) (f l)
      first l = ap (λ n. field.mul (element_at a.block.table.now l) (f n)) (omega arith)

  module _ (left : a.high.count ≡ 0 → ⊥) where
    -- the variables are one more than those of a half, and the rows twice those of a half
    pub more : a.high.count + a.low ≡ suc (a.high.count - 1 + a.low)
    more = omega (arith, one_more left)

    pub twice : 2 ^ (a.high.count + a.low) ≡ 2 ^ (a.high.count - 1 + a.low) + 2 ^ (a.high.count - 1 + a.low)
    twice = twice_half more

    -- a coordinate less is left
    pub falls : {rest : SplitPoint size} → After 1 a rest → rest.high.count < a.high.count
    falls is = omega (arith, is.high.count, one_more left)

    -- the values of the halves, on the line at the first coordinate
    module _ {rest : SplitPoint size} (is : After 1 a rest) (f low_half high_half : ℕ → Ext)
        (e0 : (y : ℕ) → y < 2 ^ (a.high.count - 1 + a.low) → low_half y ≡ f y)
        (e1 : (y : ℕ) → y < 2 ^ (a.high.count - 1 + a.low) → high_half y ≡ f (2 ^ (a.high.count - 1 + a.low) + y)) where
      abbrev sums : (ℕ → Ext) → ℕ → Ext
      sums = block_sum a.low a.block.table.now

      low_sums : (h : ℕ) → h < 2 ^ (a.high.count - 1) → sums low_half h ≡ sums f h
      unfolding block_sum
      low_sums h b =
          sum_ext field_ring (2 ^ a.low) _ _ (λ l c. ap (field.mul _) (e0 _ (within (a.high.count - 1) a.low h l b c)))

      high_sums : (h : ℕ) → h < 2 ^ (a.high.count - 1) → sums high_half h ≡ sums f (2 ^ (a.high.count - 1) + h)
      unfolding block_sum
      high_sums h b =
          sum_ext field_ring (2 ^ a.low) _ _
          (λ l c. ap (field.mul _)
          (e1 _ (within (a.high.count - 1) a.low h l b c) ∙ ap f (further (a.high.count - 1) a.low h l)))

      pub joined : {at0 at1 r x : Element} → Holds at0 (blocks_value rest low_half) → Holds at1 (blocks_value rest high_half)
          → Holds r (element_at a.high.words.now 0) → Holds x (line field (from_words at0) (from_words at1) (from_words r))
          → Holds x (blocks_value a f)
      joined d0 d1 d d-line =
          rest_joined a.high is.high left (sums f) (sums low_half) (sums high_half) low_sums high_sums
          (rw (is.low, is.block) at d0) (rw (is.low, is.block) at d1) (rw (read_as _ d) at d-line)
