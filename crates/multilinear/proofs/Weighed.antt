-- Folds by rows that are moved on and a last row beside them, and a fold by the halves of its rows, down to one row. Assumes nothing.
use mathlib.Core.Path.{◌≡◌, sym, ap, ap₂, ◌∙◌}
use Prim.Native.Nat.{ℕ, suc, ◌+◌, ◌*◌, ◌^◌, ◌<◌, ◌≤◌}
use native.Mathlib.Decide.{dec_lt}
use native.Mathlib.Nat.{add-mul, add_assoc, mul-le-mul_right}
use native.Mathlib.Omega.{arith}
use mathlib.Core.Bool.{cond}
use mathlib.Core.List.{List, [], ◌∷◌}
use lib.Dec.{ltb}
use lib.ListN.{length}
use borrow.Author.Tests.{lt-ltb, le-ltb}
use Rattle.algebra.specs.Ring.{Ops, CommRing, minus}
use Rattle.algebra.specs.Sum.{sum_to}
use Rattle.algebra.proofs.Ring.{zero_add, mul_zero}
use Rattle.algebra.proofs.Reading.{reading, ring}
use Rattle.algebra.proofs.Sums.{sum_ext, sum_none}
use Rattle.multilinear.specs.declared.Side.{Side}
use Rattle.multilinear.specs.declared.Side.TheVariants.{Prefix, Suffix}
use Rattle.multilinear.specs.declared.Weight.{Weight}
use Rattle.multilinear.specs.declared.Weight.TheVariants.{Plain, Shifted, Next, Cyclic}
use Rattle.multilinear.specs.Equality.{eq_at}
use Rattle.multilinear.specs.Successors.{last_row}
use Rattle.multilinear.specs.Folds.{word_of, fold_at}
use Rattle.multilinear.specs.Inner.{moved_at, skip_of, own_at}
use Rattle.multilinear.proofs.Equality.{eq_low, eq_high}
use Rattle.multilinear.proofs.Halves.{sum_halves}
use Rattle.multilinear.proofs.Folds.{word_is_row, fold_laws, moved_plain, moved_shifted, moved_ext}

module _ {ℓ} {R : Type ℓ} {O : Ops R} (𝓡 : CommRing O) where
  open 𝓡 use {add_zero, mul_one}
  open O use {add as ◌⊕◌, mul as ◌⊗◌, zero as 𝟘}

  infixl 65 ◌⊕◌
  infixl 70 ◌⊗◌
  infixl 65 ◌⊝◌
  abbrev ◌⊝◌ : R → R → R
  ◌⊝◌ = minus O

  -- a fold is the rows that are moved on, and the row with a weight of its own
  pub moved_own : (side : Side) (weight : Weight) (inner : ℕ) (zs : List R) (scale : R) (f : ℕ → R) (i : ℕ)
      → moved_at O side (skip_of weight) inner zs scale f i ⊕ own_at O side weight inner zs scale f i ≡ fold_at O side weight inner zs scale f i
  unfolding own_at
  moved_own side Plain inner zs scale f i = add_zero _ ∙ moved_plain 𝓡 side inner zs scale f i
  moved_own side Shifted inner zs scale f i = add_zero _ ∙ moved_shifted 𝓡 side inner zs scale f i
  moved_own side Next inner zs scale f i =
      ap (λ e. e ⊕ scale ⊗ eq_at O zs (last_row O zs) ⊗ f (word_of side inner (2 ^ length zs) i (last_row O zs)))
      (moved_shifted 𝓡 side inner zs scale f i)
      ∙ sym ((fold_laws 𝓡).next side inner zs scale f i)
  moved_own side Cyclic inner zs scale f i =
      ap (λ e. e ⊕ scale ⊗ eq_at O zs (last_row O zs) ⊗ f (word_of side inner (2 ^ length zs) i 0)) (moved_shifted 𝓡 side inner zs scale f i)
      ∙ sym ((fold_laws 𝓡).cyclic side inner zs scale f i)

  -- with one place a row both sides are the same
  same_word : (side : Side) (rows y : ℕ) → word_of side 1 rows 0 y ≡ word_of Suffix 1 rows 0 y
  same_word side rows y = word_is_row side rows y ∙ sym (word_is_row Suffix rows y)

  pub moved_agree : (side : Side) (skip : ℕ) (zs : List R) (scale : R) (f : ℕ → R)
      → moved_at O side skip 1 zs scale f 0 ≡ moved_at O Suffix skip 1 zs scale f 0
  unfolding moved_at
  moved_agree side skip zs scale f =
      sum_ext 𝓡 (2 ^ length zs) _ _
      (λ y h.
      ap (λ n. scale ⊗ eq_at O zs y ⊗ cond (ltb (y + skip) (2 ^ length zs)) (f n) 𝟘) (same_word side (2 ^ length zs) (y + skip)))

  -- a prefix fold of the rows' two halves
  pub fold_step : (inner : ℕ) (z : R) (zs : List R) (w : R) (f : ℕ → R) (i : ℕ)
      → fold_at O Prefix Plain inner (z ∷ zs) w f i
      ≡ fold_at O Prefix Plain inner zs (w ⊝ w ⊗ z) f i ⊕ fold_at O Prefix Plain inner zs (w ⊗ z) (λ t. f (2 ^ length zs * inner + t)) i
  unfolding fold_at
  fold_step inner z zs w f i =
      sum_halves 𝓡 (length zs) _
      ∙ ap₂ ◌⊕◌
      (sum_ext 𝓡 (2 ^ length zs) _ _ (λ y h. ap (λ e. e ⊗ f (y * inner + i)) (ap (λ e. w ⊗ e) (eq_low O z zs y h) ∙ low (eq_at O zs y))))
      (sum_ext 𝓡 (2 ^ length zs) _ _
      (λ y h. ap₂ (λ e n. e ⊗ f n) (ap (λ e. w ⊗ e) (eq_high O z zs y h) ∙ high (eq_at O zs y)) (further y)))
    where
      low : (e : R) → w ⊗ ((O.one ⊝ z) ⊗ e) ≡ (w ⊝ w ⊗ z) ⊗ e
      low e = reading 𝓡 (w ∷ z ∷ e ∷ []) λ q. simp (ring, q, q.at 0, q.at 1, q.at 2) (q.close tt)

      high : (e : R) → w ⊗ (z ⊗ e) ≡ w ⊗ z ⊗ e
      high e = reading 𝓡 (w ∷ z ∷ e ∷ []) λ q. simp (ring, q, q.at 0, q.at 1, q.at 2) (q.close tt)

      further : (y : ℕ) → (2 ^ length zs + y) * inner + i ≡ 2 ^ length zs * inner + (y * inner + i)
      further y = ap (λ n. n + i) (add-mul (2 ^ length zs) y inner) ∙ add_assoc _ _ i

  -- over one row
  pub fold_one : (inner : ℕ) (w : R) (f : ℕ → R) (i : ℕ) → fold_at O Prefix Plain inner [] w f i ≡ w ⊗ f i
  unfolding fold_at sum_to eq_at
  fold_one inner w f i =
      let q : 0 * inner + i ≡ i = omega arith in
      zero_add 𝓡 _ ∙ ap₂ (λ e n. e ⊗ f n) (mul_one w) q

  -- of tables that agree at the words of the rows
  pub prefix_ext : (inner : ℕ) (zs : List R) (w : R) (f g : ℕ → R) → ((t : ℕ) → t < 2 ^ length zs * inner → f t ≡ g t)
      → (i : ℕ) → i < inner → fold_at O Prefix Plain inner zs w f i ≡ fold_at O Prefix Plain inner zs w g i
  unfolding fold_at
  prefix_ext inner zs w f g e i h = sum_ext 𝓡 (2 ^ length zs) _ _ (λ y b. ap (O.mul _) (e _ (inside y b)))
    where
      inside : (y : ℕ) → y < 2 ^ length zs → y * inner + i < 2 ^ length zs * inner
      inside y b = let m : suc y * inner ≤ 2 ^ length zs * inner = mul-le-mul_right inner b in omega arith

  -- the rows of a table that is moved on, as a plain fold
  pub fold_moved : (skip inner : ℕ) (zs : List R) (scale : R) (f g : ℕ → R) (i : ℕ)
      → ((y : ℕ) → y < 2 ^ length zs → g (y * inner + i) ≡ cond (ltb (y + skip) (2 ^ length zs)) (f ((y + skip) * inner + i)) 𝟘)
      → fold_at O Prefix Plain inner zs scale g i ≡ moved_at O Prefix skip inner zs scale f i
  unfolding fold_at
  fold_moved skip inner zs scale f g i e = moved_ext 𝓡 Prefix skip inner zs scale f i (λ y. g (y * inner + i)) e

  -- a place whose words are all 0
  pub moved_none : (side : Side) (skip inner : ℕ) (zs : List R) (scale : R) (f : ℕ → R) (i : ℕ)
      → ((y : ℕ) → y < 2 ^ length zs → f (word_of side inner (2 ^ length zs) i y) ≡ 𝟘) → moved_at O side skip inner zs scale f i ≡ 𝟘
  moved_none side skip inner zs scale f i e =
      sym (moved_ext 𝓡 side skip inner zs scale f i (λ y. 𝟘) (λ y b. row y (dec_lt (y + skip) (2 ^ length zs))))
      ∙ sum_ext 𝓡 (2 ^ length zs) _ _ (λ y b. mul_zero 𝓡 _) ∙ sum_none 𝓡 (2 ^ length zs)
    where
      row : (y : ℕ) → Dec (y + skip < 2 ^ length zs)
          → 𝟘 ≡ cond (ltb (y + skip) (2 ^ length zs)) (f (word_of side inner (2 ^ length zs) i (y + skip))) 𝟘
      row y (yes h) = rw (lt-ltb (y + skip) (2 ^ length zs) h) (sym (e (y + skip) h))
      row y (no h) = let k : 2 ^ length zs ≤ y + skip = omega arith in rw (le-ltb (y + skip) (2 ^ length zs) k)
