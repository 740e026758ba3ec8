-- The equality table, succeeded, is the table of the next weights and of the cyclic ones. Assumes nothing.
use mathlib.Core.Path.{◌≡◌, refl, sym, ap, ap₂, ◌∙◌}
use mathlib.Core.Bool.{cond}
use Prim.Native.Nat.{ℕ, zero, suc, ◌-◌, ◌*◌, ◌/◌, ◌^◌, ◌<◌}
use native.Mathlib.Decide.{ℕ_discrete}
use native.Mathlib.Omega.{arith}
use mathlib.Core.List.{List}
use lib.Dec.{eqb}
use lib.ListN.{length}
use lib.Pow.{pow_pos}
use borrow.Author.Tests.{eq-eqb, ne_eqb}
use Rattle.multilinear.specs.Equality.{eq_at}
use Rattle.multilinear.specs.Successors.{last_row, shifted_at}
use Rattle.multilinear.specs.declared.Weight.{Weight}
use Rattle.multilinear.specs.Folds.{weight_at}
use Rattle.multilinear.proofs.Own.{Beside}
use Rattle.field.specs.Field.{Ext, field, from_words, Holds}
use Rattle.field.specs.declared.Element.{Element}
use Rattle.table.specs.Table.{entries, element_at, elements, table_words}
use Rattle.table.proofs.Laws.{elements_length, table_length, table_ext}
use Rattle.table.proofs.Tests.{unreduced_table}
use Rattle.table.proofs.Laws.{table_unscaled}
use Rattle.poly.specs.Inner.{Weights, previous_at, successor_at}
use Rattle.table.proofs.Laws.{table_at}

-- words that are a table of 2 ^ k weights have as many entries, and are what `succeed` wants
module _ (k : ℕ) (f : ℕ → Ext) {ws : List ℕ} (e : ws ≡ table_words (2 ^ k) f) where
  pub rows : entries ws ≡ 2 ^ k
  rows = omega (arith, ap length e, table_length (2 ^ k) f)

  pub weights : Weights (entries ws) ws
  weights =
      record {
        some = rw rows (pow_pos k);
        count = omega (arith, ap length e, table_length (2 ^ k) f);
        below = rw e (unreduced_table (2 ^ k) f);
      }

-- the successors of weights that agree on n rows agree there
module _ (own n : ℕ) (f g : ℕ → Ext) (e : (y : ℕ) → y < n → f y ≡ g y) (some : 0 < n) where
  abbrev later : Ext → Ext → ℕ → Ext
  later previous last y = cond (eqb y own) (field.add previous last) previous

  last_same : f (n - 1) ≡ g (n - 1)
  last_same = e (n - 1) (omega (arith, some))

  successor_ext : (y : ℕ) → y < n → successor_at own n f y ≡ successor_at own n g y
  successor_ext zero h = ap (λ b. later field.zero b 0) last_same
  successor_ext (suc y) h = ap₂ (λ a b. later a b (suc y)) (e y (omega arith)) last_same

-- rows of eq, each a row further, and the last row's once more: the weights that have eq[N-1] beside at that row
module _ (weight : Weight) (zs : List Ext) (own : ℕ) (b : Beside field zs (weight_at field weight zs) own) where
  previous_is : (y : ℕ) → previous_at (eq_at field zs) y ≡ shifted_at field zs y
  previous_is zero = refl
  previous_is (suc y) = refl

  weights_are : (y : ℕ) → successor_at own (2 ^ length zs) (eq_at field zs) y ≡ weight_at field weight zs y
  weights_are y = go (ℕ_discrete y own)
    where
      go : Dec (y ≡ own) → successor_at own (2 ^ length zs) (eq_at field zs) y ≡ weight_at field weight zs y
      go (yes q) =
          rw (q, eq-eqb own own refl)
          (ap (λ x. field.add x (eq_at field zs (last_row field zs))) (previous_is own) ∙ sym b.gains)
      go (no d) = rw (ne_eqb y own d) (previous_is y ∙ sym (b.other y d))

-- of the words ws that `fill` left, scaled by one
pub successors_table : (k own : ℕ) (zs : List Ext) (one : Element) (n : ℕ) (ws : List ℕ) {w : List ℕ} → Holds one field.one
    → ws ≡ table_words (2 ^ k) (λ y. field.mul (from_words one) (eq_at field zs y)) → n ≡ 2 ^ k
    → w ≡ table_words n (successor_at own n (element_at ws)) → w ≡ table_words (2 ^ k) (successor_at own (2 ^ k) (eq_at field zs))
successors_table k own zs one n ws o e q r =
    r ∙ ap (λ m. table_words m (successor_at own m (element_at ws))) q
    ∙ table_ext (2 ^ k) _ _
    (successor_ext own (2 ^ k) (element_at ws) (eq_at field zs)
    (λ x b. ap (λ t. element_at t x) (e ∙ table_unscaled (2 ^ k) (eq_at field zs) one o) ∙ table_at (2 ^ k) (eq_at field zs) x b) (pow_pos k))

-- and of a point's words
pub weights_table : (weight : Weight) (k : ℕ) (zs : List Ext) (own row : ℕ) {w : List ℕ} → length zs ≡ k
    → Beside field zs (weight_at field weight zs) own → row ≡ own → w ≡ table_words (2 ^ k) (successor_at row (2 ^ k) (eq_at field zs))
    → w ≡ table_words (2 ^ k) (weight_at field weight zs)
weights_table weight k zs own row l b q r =
    r
    ∙ table_ext (2 ^ k) _ _
    (λ y h. ap (λ m. successor_at m (2 ^ k) (eq_at field zs) y) q ∙ ap (λ m. successor_at own (2 ^ m) (eq_at field zs) y) (sym l)
    ∙ weights_are weight zs own b y)

-- the last row by the words of such a table, and by the coordinates
pub last_is : (out words : List ℕ) (k : ℕ) {n : ℕ} → n ≡ k → length out ≡ 4 * 2 ^ k
    → length out / 4 - 1 ≡ last_row field (elements words 0 n)
last_is out words k {n} q l =
    omega (arith, l) ∙ ap (λ m. 2 ^ m - 1) (sym (elements_length words 0 n ∙ q))
