-- Folds of one column, which are those of document 01. Assumes nothing.
use mathlib.Core.Bool.{false}
use mathlib.Core.Path.{◌≡◌, sym, ap, ◌∙◌}
use Prim.Native.Nat.{ℕ, ◌*◌, ◌^◌, ◌≤◌}
use native.Mathlib.Nat.{mul-one, one-mul}
use native.Mathlib.Omega.{arith}
use mathlib.Core.List.{List}
use lib.ListN.{length, get_or}
use Rattle.algebra.specs.Words.{unreduced}
use Rattle.multilinear.specs.declared.Side.{Side}
use Rattle.multilinear.specs.declared.Side.TheVariants.{Prefix, Suffix}
use Rattle.field.specs.Field.{p, Ext, field, base, Reduced}
use Rattle.table.specs.Table.{table_words, element_at, placed}
use Rattle.table.proofs.Laws.{table_ext}
use Rattle.table.specs.Refusals.{most}
use Rattle.plan.specs.declared.Plan.{Plan}
use Rattle.plan.specs.Sound.{Sound, Fills}
use Rattle.plan.specs.Plan.{most_on, rows, places, width, capacity, out_of, fold_of, gained_by}
use Rattle.plan.specs.Columns.{plain_at}
use Rattle.plan.proofs.Columns.{wide, all_words}

-- one column is within, on either side
pub one_fits : (side : Side) → 1 ≤ most_on side
one_fits Prefix = omega arith
one_fits Suffix = omega arith

-- with one column a row has a word for each place, and the table 2^n
module _ (plan : Plan) (one : plan.columns ≡ 1) where
  pub one_width : width plan ≡ places plan
  one_width = ap (λ c. places plan * c) one ∙ mul-one (places plan)

  pub one_table : capacity plan ≡ 2 ^ plan.n
  one_table = ap (λ c. c * 2 ^ plan.n) one ∙ one-mul (2 ^ plan.n)

  pub one_words : plan.k ≤ plan.n → capacity plan ≡ rows plan * places plan
  one_words h = all_words plan h ∙ ap (λ m. rows plan * m) one_width

  -- and a fold goes place by place
  one_at : (f : ℕ → Ext) (i : ℕ) → out_of plan f i ≡ plain_at plan (places plan) f i
  one_at f i =
      wide plan f i (omega (arith, one)) (rw one (one_fits plan.side)) ∙ ap (λ m. plain_at plan m f i) one_width

  pub one_fold : (ws : List ℕ) → fold_of plan ws ≡ table_words (places plan) (plain_at plan (places plan) (λ t. base (get_or ws t 0)))
  one_fold ws =
      ap (λ m. table_words m (out_of plan (λ t. base (get_or ws t 0)))) one_width
      ∙ table_ext (places plan) _ _ (λ i h. one_at (λ t. base (get_or ws t 0)) i)

  pub one_gained : (taken : ℕ) (piece out : List ℕ) → gained_by plan taken piece out
      ≡ table_words (places plan)
      (λ i. field.add (element_at out i) (plain_at plan (places plan) (λ t. base (placed taken piece t)) i))
  one_gained taken piece out =
      ap (λ m. table_words m (λ i. field.add (element_at out i) (out_of plan (λ t. base (placed taken piece t)) i))) one_width
      ∙ table_ext (places plan) _ _ (λ i h. ap (field.add (element_at out i)) (one_at (λ t. base (placed taken piece t)) i))

  -- so what a fold of one column asks for is asked of 2^n words and 2^(n-k) places
  module _ (small : plan.n ≤ most) (fits : plan.k ≤ plan.n) (scale : Reduced plan.scale) (coordinates : unreduced p plan.coordinates ≡ false) where
    pub one_sound : Sound plan
    one_sound =
        record {
          small = small;
          fits = fits;
          some_columns = omega (arith, one);
          few_columns = rw one (one_fits plan.side);
          scale_is = scale;
          coordinates_below = coordinates;
        }

    pub one_fills : {table out : List ℕ} → length table ≡ 2 ^ plan.n → unreduced p table ≡ false → length out ≡ 4 * places plan
        → Fills plan table out
    one_fills count below room =
        record {
          sound = one_sound;
          count = count ∙ sym one_table;
          below = below;
          room = room ∙ ap (λ m. 4 * m) (sym one_width);
        }

-- which is so on the suffix side
pub one_column : {plan : Plan} → Sound plan → plan.side ≡ Suffix → plan.columns ≡ 1
one_column {plan} s e = let h : plan.columns ≤ most_on Suffix = rw e at s.few_columns in omega (arith, h, s.some_columns)
