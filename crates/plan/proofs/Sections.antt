-- A section is a fold of its own: its place i is place from + i of the whole fold. Assumes nothing.
use mathlib.Core.Path.{◌≡◌, sym, ap, ◌∙◌}
use Prim.Native.Nat.{ℕ, ◌+◌, ◌-◌, ◌*◌, ◌≤◌, ◌<◌}
use native.Mathlib.Nat.{add_assoc, add-mul, suc-mul, mul_comm, mul-le-mul_right}
use native.Mathlib.Omega.{arith}
use Rattle.algebra.proofs.Sums.{sum_ext}
use Rattle.multilinear.specs.declared.Side.{Side}
use Rattle.multilinear.specs.declared.Side.TheVariants.{Prefix, Suffix}
use Rattle.multilinear.specs.Folds.{word_of, fold_at}
use Rattle.field.specs.Field.{Ext, field}
use Rattle.field.proofs.Laws.{field_ring}
use Rattle.table.specs.Table.{table_words}
use Rattle.table.proofs.Laws.{table_ext, elements_length}
use Rattle.plan.specs.declared.Plan.{Plan}
use Rattle.plan.specs.Plan.{rows, width, capacity, out_of}
use Rattle.plan.specs.Sound.{Sound}
use Rattle.plan.specs.Section.{section_of, origin_of}
use Rattle.plan.proofs.Columns.{in_group, in_rows, all_words}

-- item i of group a, of n groups of b
pub group_within : (a b i n : ℕ) → a < n → i < b → a * b + i < n * b
group_within a b i n h l =
    let le : (a + 1) * b ≤ n * b = mul-le-mul_right {m = a + 1} {n = n} b (omega arith) in
    omega (arith, suc-mul a b)

-- the word of place i of row y is in the section's table, and stands in the whole one where the word of place from + i does
module _ (inner own count from i y : ℕ) (h : i < own) (l : y < count) where
  word_within : (side : Side) → word_of side own count i y < count * own
  word_within Prefix = group_within y own i count l h
  word_within Suffix = rw (mul_comm count own) (group_within i count y own h l)

  word_origin : (side : Side) → origin_of side inner count own from (word_of side own count i y) ≡ word_of side inner count (from + i) y
  unfolding origin_of
  word_origin Prefix = let g = in_group y own i h in rw (g.0, g.1) (add_assoc (y * inner) from i)
  word_origin Suffix = omega (arith, add-mul from i count)

module _ {plan : Plan} {held : ℕ} (s : Sound plan) (h : held ≤ plan.n - plan.k) where
  abbrev part : Plan
  part = section_of plan held

  -- a section's plan is sound
  pub part_sound : Sound part
  part_sound =
      record {
        small = omega (arith, s.small, s.fits);
        fits = omega arith;
        some_columns = s.some_columns;
        few_columns = s.few_columns;
        scale_is = s.scale_is;
        coordinates_below = s.coordinates_below;
      }

  -- g has the section's words, f the whole table's
  module _ (from : ℕ) (f g : ℕ → Ext)
      (e : (t : ℕ) → t < capacity part → g t ≡ f (origin_of plan.side (width plan) (rows plan) (width part) from t)) where
    pub place_is : (i : ℕ) → i < width part → out_of part g i ≡ out_of plan f (from + i)
    unfolding fold_at
    place_is i l =
        in_rows part_sound g i
        ∙ rw (elements_length plan.coordinates 0 plan.k)
        (sum_ext field_ring (rows plan) _ _ (λ y b. ap (field.mul _)
        (e _ (rw (all_words part part_sound.fits) (word_within (width plan) (width part) (rows plan) from i y l b plan.side))
        ∙ ap f (word_origin (width plan) (width part) (rows plan) from i y l b plan.side))))
        ∙ sym (in_rows s f (from + i))

    -- all places
    pub section : table_words (width part) (out_of part g) ≡ table_words (width part) (λ i. out_of plan f (from + i))
    section = table_ext (width part) _ _ place_is
