-- A fold by some coordinates and then of its sums by the others, and a fold by one coordinate that joins the halves of the rows. Assumes
-- nothing.
use mathlib.Core.Path.{◌≡◌, sym, ap, ap₂, ◌∙◌}
use Prim.Native.Nat.{ℕ, ◌+◌, ◌*◌, ◌^◌, ◌<◌}
use native.Mathlib.Nat.{add-mul, mul_assoc as Nat·mul-assoc, add_assoc as Nat·add-assoc}
use mathlib.Core.List.{List, [], ◌∷◌, ◌++◌}
use lib.ListN.{length, length-append}
use lib.Pow.{pow-add}
use Rattle.algebra.specs.Ring.{Ops, CommRing, minus}
use Rattle.algebra.specs.Sum.{sum_to}
use Rattle.algebra.proofs.Ring.{one_mul}
use Rattle.algebra.proofs.Reading.{reading, ring}
use Rattle.algebra.proofs.Sums.{sum_ext, sum_add, sum_scale, sum_swap, sum_blocks}
use Rattle.multilinear.specs.declared.Side.TheVariants.{Prefix}
use Rattle.multilinear.specs.declared.Weight.TheVariants.{Plain}
use Rattle.multilinear.specs.Equality.{eq_at}
use Rattle.multilinear.specs.Folds.{fold_at}
use Rattle.multilinear.proofs.Split.{eq_split}
use Rattle.multilinear.proofs.Weighed.{fold_step}

module _ {ℓ} {R : Type ℓ} {O : Ops R} (𝓡 : CommRing O) where
  open 𝓡 use {mul_assoc, mul_comm}
  open O use {add as ◌⊕◌, mul as ◌⊗◌}

  infixl 65 ◌⊕◌
  infixl 70 ◌⊗◌
  -- 2^(length vs) rows taken together are one row of the coordinates us
  pub fold_together : (inner : ℕ) (us vs : List R) (scale : R) (f : ℕ → R) (i : ℕ)
      → fold_at O Prefix Plain inner (us ++ vs) scale f i
      ≡ sum_to O (2 ^ length vs) (λ y. eq_at O vs y ⊗ fold_at O Prefix Plain (2 ^ length vs * inner) us scale f (y * inner + i))
  unfolding fold_at
  fold_together inner us vs scale f i =
      ap (λ n. sum_to O n whole) rows ∙ sum_blocks 𝓡 (2 ^ length us) (2 ^ length vs) whole
      ∙ sum_ext 𝓡 (2 ^ length us) _ _ (λ h b. sum_ext 𝓡 (2 ^ length vs) _ _ (λ y c. row h y c))
      ∙ sum_swap 𝓡 (2 ^ length us) (2 ^ length vs) (λ h y. eq_at O vs y ⊗ part y h)
      ∙ sum_ext 𝓡 (2 ^ length vs) _ _ (λ y c. sum_scale 𝓡 (2 ^ length us) (eq_at O vs y) (part y))
    where
      whole : ℕ → R
      whole t = scale ⊗ eq_at O (us ++ vs) t ⊗ f (t * inner + i)

      part : ℕ → ℕ → R
      part y h = scale ⊗ eq_at O us h ⊗ f (h * (2 ^ length vs * inner) + (y * inner + i))

      rows : 2 ^ length (us ++ vs) ≡ 2 ^ length us * 2 ^ length vs
      rows = ap (λ n. 2 ^ n) (length-append us vs) ∙ pow-add 2 (length us) (length vs)

      word : (h y : ℕ) → (h * 2 ^ length vs + y) * inner + i ≡ h * (2 ^ length vs * inner) + (y * inner + i)
      word h y =
          ap (λ n. n + i) (add-mul (h * 2 ^ length vs) y inner ∙ ap (λ n. n + y * inner) (Nat·mul-assoc h (2 ^ length vs) inner))
          ∙ Nat·add-assoc (h * (2 ^ length vs * inner)) (y * inner) i

      row : (h y : ℕ) → y < 2 ^ length vs → whole (h * 2 ^ length vs + y) ≡ eq_at O vs y ⊗ part y h
      row h y c =
          ap₂ (λ e n. scale ⊗ e ⊗ f n) (eq_split 𝓡 us vs h y c) (word h y)
          ∙ ap (λ e. e ⊗ f (h * (2 ^ length vs * inner) + (y * inner + i)))
          (sym (mul_assoc scale (eq_at O us h) (eq_at O vs y)) ∙ mul_comm (scale ⊗ eq_at O us h) (eq_at O vs y))
          ∙ mul_assoc _ _ _

  -- so its sums are folded by vs
  pub fold_of_sums : (inner : ℕ) (us vs : List R) (scale : R) (f : ℕ → R) (i : ℕ)
      → fold_at O Prefix Plain inner (us ++ vs) scale f i
      ≡ fold_at O Prefix Plain inner vs O.one (fold_at O Prefix Plain (2 ^ length vs * inner) us scale f) i
  unfolding fold_at
  fold_of_sums inner us vs scale f i =
      fold_together inner us vs scale f i
      ∙ sum_ext 𝓡 (2 ^ length vs) _ _
      (λ y c. ap (λ e. e ⊗ fold_at O Prefix Plain (2 ^ length vs * inner) us scale f (y * inner + i)) (sym (one_mul 𝓡 _)))

  -- the second half of the rows comes to the first, by the first coordinate
  pub fold_joined : (inner : ℕ) (z : R) (zs : List R) (w : R) (f : ℕ → R) (i : ℕ)
      → fold_at O Prefix Plain inner zs w (λ t. f t ⊕ minus O (f (2 ^ length zs * inner + t)) (f t) ⊗ z) i
      ≡ fold_at O Prefix Plain inner (z ∷ zs) w f i
  unfolding fold_at
  fold_joined inner z zs w f i =
      sum_ext 𝓡 (2 ^ length zs) _ _ (λ y c. law (eq_at O zs y) (f (y * inner + i)) (f (2 ^ length zs * inner + (y * inner + i))))
      ∙ sum_add 𝓡 (2 ^ length zs) _ _ ∙ sym (fold_step 𝓡 inner z zs w f i)
    where
      law : (e a b : R) → w ⊗ e ⊗ (a ⊕ minus O b a ⊗ z) ≡ minus O w (w ⊗ z) ⊗ e ⊗ a ⊕ w ⊗ z ⊗ e ⊗ b
      law e a b =
          reading 𝓡 (w ∷ z ∷ e ∷ a ∷ b ∷ []) λ q. simp (ring, q, q.at 0, q.at 1, q.at 2, q.at 3, q.at 4) (q.close tt)
