-- The laws of columns (specs/Columns.antt), and folds, gains and sums of tables by them. Assumes nothing.
use mathlib.Core.Path.{◌≡◌, sym, ap, ap₂, ◌∙◌}
use Prim.Native.Nat.{ℕ, ◌+◌, ◌-◌, ◌*◌, ◌/◌, ◌%◌, ◌^◌, ◌≤◌, ◌<◌}
use native.Mathlib.Nat.{add-zero, div-add-mod', mul-add-div_right, mul-add-mod_self_right, mod-eq_of_lt, div-eq_of_lt, mul_assoc, mul_comm, mul-le-mul, mul-pos}
use native.Mathlib.Omega.{arith}
use mathlib.Core.List.{List}
use lib.Pow.{pow-add, pow_pos, pow_mono}
use Rattle.algebra.specs.Sum.{sum_to}
use Rattle.multilinear.specs.declared.Side.{Side}
use Rattle.multilinear.specs.declared.Side.TheVariants.{Prefix, Suffix}
use Rattle.multilinear.specs.declared.Weight.{Weight}
use Rattle.multilinear.specs.Folds.{word_of, fold_at}
use Rattle.multilinear.proofs.Folds.{fold_laws, fold_ext, fold_add, fold_none}
use Rattle.field.specs.Field.{Ext, field, base, from_words}
use Rattle.field.proofs.Laws.{field_ring}
use Rattle.table.specs.Table.{table_words, element_at, placed}
use Rattle.table.proofs.Laws.{table_ext, elements_length}
use Rattle.table.specs.Refusals.{most, most_columns, largest}
use Rattle.plan.specs.declared.Plan.{Plan}
use Rattle.plan.specs.Sound.{Sound}
use Rattle.plan.specs.Plan.{most_on, rows, places, width, capacity, coordinates_of, weight_in, place_of, out_of, gained_by}
use Rattle.plan.specs.Columns.{plain_at, column_of, ColumnLaws}

-- column by column, or in one fold of longer rows
together : (side : Side) (weight : Weight) (inner c : ℕ) (zs : List Ext) (scale : Ext) (f : ℕ → Ext) (m : ℕ) → 0 < c → c ≤ most_on side
    → fold_at field side weight inner zs scale (λ w. f (w * c + m % c)) (m / c) ≡ fold_at field side weight (inner * c) zs scale f m
together Prefix weight inner c zs scale f m s h =
    (fold_laws field_ring).columns weight inner c zs scale f (m / c) (m % c)
    ∙ ap (fold_at field Prefix weight (inner * c) zs scale f) (div-add-mod' m c)
together Suffix weight inner c zs scale f m s h =
    let one : c ≡ 1 = omega (arith, s, h) in
    let word : (w : ℕ) → w * 1 + m % 1 ≡ w = λ w. omega arith in
    let place : m / 1 ≡ m = omega arith in
    let row : inner ≡ inner * 1 = omega arith in
    rw one
    (fold_ext field_ring Suffix weight inner zs scale _ f (λ w. ap f (word w)) (m / 1)
    ∙ ap (fold_at field Suffix weight inner zs scale f) place ∙ ap (λ n. fold_at field Suffix weight n zs scale f m) row)

module _ (plan : Plan) where
  pub single : (f : ℕ → Ext) (i j : ℕ) → place_of plan f i j ≡ plain_at plan (places plan) (column_of plan f j) i
  unfolding place_of fold_at
  single f i j =
      ap
      (λ n. sum_to field (2 ^ n)
      (λ y. field.mul (field.mul (from_words plan.scale) (weight_in plan y)) (f (word_of plan.side (places plan) (2 ^ n) i y * plan.columns + j))))
      (sym (elements_length plan.coordinates 0 plan.k))

  -- a place goes over sums of tables
  pub place_ext : (f g : ℕ → Ext) → ((t : ℕ) → f t ≡ g t) → (i j : ℕ) → place_of plan f i j ≡ place_of plan g i j
  place_ext f g e i j = single f i j ∙ fold_ext field_ring _ _ _ _ _ _ _ (λ w. e (w * plan.columns + j)) i ∙ sym (single g i j)

  pub place_add : (f g : ℕ → Ext) (i j : ℕ)
      → place_of plan (λ t. field.add (f t) (g t)) i j ≡ field.add (place_of plan f i j) (place_of plan g i j)
  place_add f g i j =
      single (λ t. field.add (f t) (g t)) i j ∙ fold_add field_ring _ _ _ _ _ (column_of plan f j) (column_of plan g j) i
      ∙ ap (λ x. field.add x (plain_at plan (places plan) (column_of plan g j) i)) (sym (single f i j))
      ∙ ap (field.add (place_of plan f i j)) (sym (single g i j))

  pub place_none : (i j : ℕ) → place_of plan (λ t. field.zero) i j ≡ field.zero
  place_none i j = single (λ t. field.zero) i j ∙ fold_none field_ring _ _ _ _ _ i

pub wide : (plan : Plan) (f : ℕ → Ext) (m : ℕ) → 0 < plan.columns → plan.columns ≤ most_on plan.side
    → out_of plan f m ≡ plain_at plan (width plan) f m
wide plan f m s h =
    single plan f (m / plan.columns) (m % plan.columns)
    ∙ together plan.side plan.weight (places plan) plan.columns (coordinates_of plan) (from_words plan.scale) f m s h

pub column_laws : ColumnLaws
column_laws = record { wide = wide; single = single }

-- item j of group i, of groups of b
pub in_group : (i b j : ℕ) → j < b → ((i * b + j) / b ≡ i) × ((i * b + j) % b ≡ j)
in_group i b j h = (
  mul-add-div_right {m = b} (omega (arith, h)) i j ∙ ap (λ n. i + n) (div-eq_of_lt h) ∙ add-zero i,
  mul-add-mod_self_right i b j ∙ mod-eq_of_lt h,
)

-- column j of place i stands at i·c + j
pub column_at : (plan : Plan) (f : ℕ → Ext) (i j : ℕ) → j < plan.columns → out_of plan f (i * plan.columns + j) ≡ place_of plan f i j
column_at plan f i j h = let g = in_group i plan.columns j h in ap₂ (place_of plan f) g.0 g.1

-- no more than 16 columns, on either side
pub few_columns : (side : Side) (c : ℕ) → c ≤ most_on side → c ≤ most_columns
few_columns Prefix c h = h
few_columns Suffix c h = omega (arith, h)

-- a table has a word for each word of each row
pub all_words : (plan : Plan) → plan.k ≤ plan.n → capacity plan ≡ rows plan * width plan
all_words plan h =
    let q : plan.k + (plan.n - plan.k) ≡ plan.n = omega arith in
    ap (λ m. plan.columns * 2 ^ m) (sym q) ∙ ap (λ m. plan.columns * m) (pow-add 2 plan.k (plan.n - plan.k))
    ∙ mul_comm plan.columns (rows plan * places plan) ∙ mul_assoc (rows plan) (places plan) plan.columns

module _ {plan : Plan} (s : Sound plan) where
  -- a sound plan's fold, and what a piece adds, in rows of `width` words
  pub in_rows : (f : ℕ → Ext) (m : ℕ) → out_of plan f m ≡ plain_at plan (width plan) f m
  in_rows f m = wide plan f m s.some_columns s.few_columns

  pub gained_rows : (taken : ℕ) (piece out : List ℕ) → gained_by plan taken piece out
      ≡ table_words (width plan) (λ m. field.add (element_at out m) (plain_at plan (width plan) (λ t. base (placed taken piece t)) m))
  gained_rows taken piece out =
      table_ext (width plan) _ _ (λ m h. ap (field.add (element_at out m)) (in_rows (λ t. base (placed taken piece t)) m))

  -- what the count of a row's words asks for
  pub row_sizes : (plan.k ≤ plan.n) × (plan.n - plan.k ≤ most) × (plan.columns ≤ most_columns)
  row_sizes = (s.fits, omega (arith, s.small), few_columns plan.side plan.columns s.few_columns)

  -- there is a word in each row
  pub some_width : 0 < width plan
  some_width = mul-pos (pow_pos (plan.n - plan.k)) s.some_columns

  -- and no more words in the table than in the largest
  pub few_words : capacity plan ≤ largest
  few_words = mul-le-mul (few_columns plan.side plan.columns s.few_columns) (pow_mono s.small)
