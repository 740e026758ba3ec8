-- Sums of the weights from some row on: by the shifted, the next and the cyclic weights, and of a fold whose words are 0 and then one value. Over any
-- commutative ring. Assumes nothing.
use mathlib.Core.Path.{◌≡◌, sym, ap, ap₂, ◌∙◌}
use mathlib.Core.Logic.{◌≢◌}
use Prim.Native.Nat.{ℕ, zero, suc, ◌+◌, ◌-◌, ◌^◌, ◌≤◌, ◌<◌}
use native.Mathlib.Decide.{dec_lt}
use native.Mathlib.Omega.{arith}
use mathlib.Core.List.{List, [], ◌∷◌}
use lib.ListN.{length}
use lib.Pow.{pow_pos}
use Rattle.algebra.specs.Ring.{Ops, CommRing, minus}
use Rattle.algebra.specs.Sum.{sum_to}
use Rattle.algebra.proofs.Ring.{zero_add, mul_zero, zero_mul}
use Rattle.algebra.proofs.Reading.{reading, ring}
use Rattle.algebra.proofs.Sums.{sum_ext, sum_none, sum_split, sum_gain}
use Rattle.multilinear.specs.declared.Side.{Side}
use Rattle.multilinear.specs.declared.Weight.{Weight}
use Rattle.multilinear.specs.declared.Weight.TheVariants.{Plain, Shifted, Next, Cyclic}
use Rattle.multilinear.specs.Equality.{eq_at}
use Rattle.multilinear.specs.Successors.{last_row, shifted_at}
use Rattle.multilinear.specs.Folds.{word_of, weight_at, fold_at}
use Rattle.multilinear.specs.Tails.{tail_at}
use Rattle.multilinear.proofs.Halves.{sum_scaled}
use Rattle.multilinear.proofs.EqualityLaws.{equality_laws}
use Rattle.multilinear.proofs.Own.{Beside, next_beside, cyclic_beside}

module _ {ℓ} {R : Type ℓ} {O : Ops R} (𝓡 : CommRing O) where
  open 𝓡 use {add_assoc, add_neg, add_zero}
  open O use {add as ◌⊕◌, mul as ◌⊗◌, zero as 𝟘}

  infixl 65 ◌⊕◌
  infixl 70 ◌⊗◌
  infixl 65 ◌⊝◌
  abbrev ◌⊝◌ : R → R → R
  ◌⊝◌ = minus O

  pub none : (weight : Weight) (zs : List R) (m : ℕ) → 2 ^ length zs ≤ m → tail_at O weight zs m ≡ 𝟘
  unfolding tail_at sum_to
  none weight zs m h =
      let count : 2 ^ length zs - m ≡ 0 = omega arith in
      ap (λ n. sum_to O n (λ j. weight_at O weight zs (m + j))) count

  -- from row 0 on the shifted weights sum to what they do from row 1 on
  shifted_first : (zs : List R) → tail_at O Shifted zs 0 ≡ tail_at O Shifted zs 1
  unfolding tail_at sum_to
  shifted_first zs =
      let count : 2 ^ length zs - 0 ≡ 1 + (2 ^ length zs - 1) = omega (arith, pow_pos (length zs)) in
      ap (λ n. sum_to O n (λ j. shifted_at O zs (0 + j))) count ∙ sum_split 𝓡 (2 ^ length zs - 1) 1 _
      ∙ ap₂ ◌⊕◌ (add_zero 𝟘) (sum_ext 𝓡 (2 ^ length zs - 1) _ (λ j. shifted_at O zs (1 + j)) (λ y b. ap (shifted_at O zs) (row y)))
      ∙ zero_add 𝓡 _
    where
      row : (y : ℕ) → 0 + (1 + y) ≡ 1 + y
      row y = omega arith

  -- the summands are those of eq from the row before on, but for the last
  shifted_later : (zs : List R) (m : ℕ) → m < 2 ^ length zs
      → tail_at O Shifted zs (suc m) ⊕ eq_at O zs (last_row O zs) ≡ tail_at O Plain zs m
  unfolding tail_at sum_to
  shifted_later zs m h =
      let count : 2 ^ length zs - m ≡ suc (2 ^ length zs - suc m) = omega arith in
      let last : last_row O zs ≡ m + (2 ^ length zs - suc m) = omega arith in
      ap₂ ◌⊕◌
      (sum_ext 𝓡 (2 ^ length zs - suc m) _ (λ j. eq_at O zs (m + j)) (λ y b. ap (shifted_at O zs) (row y)))
      (ap (eq_at O zs) last)
      ∙ sym (ap (λ n. sum_to O n (λ j. eq_at O zs (m + j))) count)
    where
      row : (y : ℕ) → suc m + y ≡ suc (m + y)
      row y = omega arith

  shifted_and_last : (zs : List R) (m : ℕ) → m ≤ 2 ^ length zs
      → tail_at O Shifted zs m ⊕ eq_at O zs (last_row O zs) ≡ tail_at O Plain zs (m - 1)
  shifted_and_last zs zero h = ap (λ x. x ⊕ eq_at O zs (last_row O zs)) (shifted_first zs) ∙ shifted_later zs 0 (pow_pos (length zs))
  shifted_and_last zs (suc m) h =
      let q : m ≡ suc m - 1 = omega arith in
      shifted_later zs m (omega arith) ∙ ap (tail_at O Plain zs) q

  pub shifted : (zs : List R) (m : ℕ) → m ≤ 2 ^ length zs
      → tail_at O Shifted zs m ≡ tail_at O Plain zs (m - 1) ⊝ eq_at O zs (last_row O zs)
  shifted zs m h =
      sym
      (ap (λ x. x ⊝ eq_at O zs (last_row O zs)) (sym (shifted_and_last zs m h)) ∙ add_assoc _ _ _
      ∙ ap (λ x. tail_at O Shifted zs m ⊕ x) (add_neg _) ∙ add_zero _)

  -- weights that are the shifted ones and eq[N-1] once more at one row: where that is one of those from m on
  with_own : (weight : Weight) (zs : List R) (own m : ℕ) → Beside O zs (weight_at O weight zs) own → m ≤ own
      → tail_at O weight zs m ≡ tail_at O Shifted zs m ⊕ eq_at O zs (last_row O zs)
  unfolding tail_at
  with_own weight zs own m b h =
      sum_gain 𝓡 (2 ^ length zs - m) (λ j. shifted_at O zs (m + j)) (λ j. weight_at O weight zs (m + j)) (own - m) _
      (omega (arith, h, b.there)) (λ y c d. b.other (m + y) (other y d))
      (ap (weight_at O weight zs) here ∙ b.gains ∙ ap (λ n. shifted_at O zs n ⊕ eq_at O zs (last_row O zs)) (sym here))
    where
      here : m + (own - m) ≡ own
      here = omega (arith, h)

      other : (y : ℕ) → y ≢ own - m → m + y ≢ own
      other y d e = d (omega arith)

  pub next : (zs : List R) (m : ℕ) → m < 2 ^ length zs → tail_at O Next zs m ≡ tail_at O Plain zs (m - 1)
  next zs m h = with_own Next zs (last_row O zs) m (next_beside 𝓡 zs) (omega arith) ∙ shifted_and_last zs m (omega arith)

  pub cyclic : (zs : List R) (m : ℕ) → 0 < m → tail_at O Cyclic zs m ≡ tail_at O Shifted zs m
  unfolding tail_at
  cyclic zs m h = sum_ext 𝓡 (2 ^ length zs - m) _ _ (λ y b. (cyclic_beside 𝓡 zs).other (m + y) (later y))
    where
      later : (y : ℕ) → m + y ≢ 0
      later y e = omega arith

  -- row 0 is one of all
  all_plain : (zs : List R) → tail_at O Plain zs 0 ≡ O.one
  unfolding tail_at
  all_plain zs =
      let count : 2 ^ length zs - 0 ≡ 2 ^ length zs = omega arith in
      ap (λ n. sum_to O n (λ j. eq_at O zs (0 + j))) count
      ∙ sum_ext 𝓡 (2 ^ length zs) _ (eq_at O zs) (λ y b. ap (eq_at O zs) (row y)) ∙ (equality_laws 𝓡).total zs
    where
      row : (y : ℕ) → 0 + y ≡ y
      row y = omega arith

  pub cyclic_all : (zs : List R) → tail_at O Cyclic zs 0 ≡ O.one
  cyclic_all zs = with_own Cyclic zs 0 0 (cyclic_beside 𝓡 zs) (omega arith) ∙ shifted_and_last zs 0 (omega arith) ∙ all_plain zs

  -- a fold's rows before m are 0, and those from m on have a factor in common
  module _ (side : Side) (weight : Weight) (inner : ℕ) (zs : List R) (scale v : R) (f : ℕ → R) (i m : ℕ)
      (before : (y : ℕ) → y < m → y < 2 ^ length zs → f (word_of side inner (2 ^ length zs) i y) ≡ 𝟘)
      (after : (y : ℕ) → m ≤ y → y < 2 ^ length zs → f (word_of side inner (2 ^ length zs) i y) ≡ v) where
    abbrev row : ℕ → R
    row y = scale ⊗ weight_at O weight zs y ⊗ f (word_of side inner (2 ^ length zs) i y)

    none_before : (n : ℕ) → n ≤ m → n ≤ 2 ^ length zs → sum_to O n row ≡ 𝟘
    none_before n a b =
        sum_ext 𝓡 n row (λ y. 𝟘) (λ y h. ap (O.mul _) (before y (omega arith) (omega arith)) ∙ mul_zero 𝓡 _) ∙ sum_none 𝓡 n

    turned : (w : R) → scale ⊗ w ⊗ v ≡ scale ⊗ v ⊗ w
    turned w = reading 𝓡 (scale ∷ v ∷ w ∷ []) λ q. simp (ring, q, q.at 0, q.at 1, q.at 2) (q.close tt)

    inside : m ≤ 2 ^ length zs → sum_to O (2 ^ length zs) row ≡ scale ⊗ tail_at O weight zs m ⊗ v
    unfolding tail_at
    inside h =
        let count : 2 ^ length zs ≡ m + (2 ^ length zs - m) = omega arith in
        ap (λ n. sum_to O n row) count ∙ sum_split 𝓡 (2 ^ length zs - m) m row
        ∙ ap₂ ◌⊕◌ (none_before m (omega arith) h)
        (sum_scaled 𝓡 (2 ^ length zs - m) _ (λ j. weight_at O weight zs (m + j)) (scale ⊗ v)
        (λ y b. ap (O.mul _) (after (m + y) (omega arith) (omega arith)) ∙ turned _))
        ∙ zero_add 𝓡 _ ∙ sym (turned _)

    past : 2 ^ length zs ≤ m → sum_to O (2 ^ length zs) row ≡ scale ⊗ tail_at O weight zs m ⊗ v
    past h =
        none_before (2 ^ length zs) h (omega arith)
        ∙ sym (ap (λ t. scale ⊗ t ⊗ v) (none weight zs m h) ∙ ap (λ x. x ⊗ v) (mul_zero 𝓡 scale) ∙ zero_mul 𝓡 v)

    pub constant : fold_at O side weight inner zs scale f i ≡ scale ⊗ tail_at O weight zs m ⊗ v
    unfolding fold_at
    constant = go (dec_lt m (2 ^ length zs))
      where
        go : Dec (m < 2 ^ length zs) → sum_to O (2 ^ length zs) row ≡ scale ⊗ tail_at O weight zs m ⊗ v
        go (yes h) = inside (omega arith)
        go (no h) = past (omega arith)
