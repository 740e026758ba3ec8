-- The laws of the successors (specs/Laws.antt), over any commutative ring: the next table of the first point at the second is done plus
-- omega, and the cyclic table done plus carry. Assumes nothing.
use mathlib.Core.Path.{◌≡◌, refl, sym, ap, ap₂, ◌∙◌}
use mathlib.Core.Logic.{◌≢◌}
use mathlib.Core.Bool.{cond}
use Prim.Native.Nat.{ℕ, zero, suc, ◌+◌, ◌-◌, ◌^◌, ◌<◌}
use native.Mathlib.Omega.{arith}
use native.Mathlib.Nat.{add-suc as Nat·add-suc, two-pow-succ}
use mathlib.Core.List.{List, [], ◌∷◌}
use lib.ListN.{length}
use lib.Pow.{pow_pos, ones_lt}
use lib.Dec.{eqb}
use borrow.Author.Tests.{ne_eqb}
use Rattle.algebra.specs.Ring.{Ops, CommRing, minus}
use Rattle.algebra.specs.Sum.{sum_to}
use Rattle.algebra.proofs.Ring.{zero_add, mul_zero, mul_swap4}
use Rattle.algebra.proofs.Reading.{reading, ring}
use Rattle.algebra.proofs.Sums.{sum_gain, sum_scale}
use Rattle.multilinear.specs.Equality.{eq_at, agreement}
use Rattle.multilinear.specs.Successors.{last_row, shifted_at, next_at, cyclic_at, eval_next}
use Rattle.multilinear.specs.Laws.{SuccessorLaws}
use Rattle.multilinear.proofs.Equality.{eq_low, eq_high, low_half, high_half}
use Rattle.multilinear.proofs.Halves.{sum_halves, sum_scaled}
use Rattle.multilinear.proofs.Own.{next_beside, cyclic_beside, own_sum}
use Rattle.multilinear.proofs.Rounds.{follows}

module _ {ℓ} {R : Type ℓ} {O : Ops R} (𝓡 : CommRing O) where
  open 𝓡 use {mul_comm, mul_one, mul_add}
  open O use {add as ◌⊕◌, mul as ◌⊗◌, zero as 𝟘, one as 𝟙}

  infixl 65 ◌⊕◌
  infixl 70 ◌⊗◌
  infixl 65 ◌⊝◌
  abbrev ◌⊝◌ : R → R → R
  ◌⊝◌ = minus O

  shifted_low : (s : R) (ss : List R) (y : ℕ) → y < 2 ^ length ss → shifted_at O (s ∷ ss) y ≡ (𝟙 ⊝ s) ⊗ shifted_at O ss y
  shifted_low s ss zero h = sym (mul_zero 𝓡 _)
  shifted_low s ss (suc y) h = eq_low O s ss y (omega arith)

  shifted_high : (s : R) (ss : List R) (y : ℕ) → y < 2 ^ length ss → y ≢ 0
      → shifted_at O (s ∷ ss) (2 ^ length ss + y) ≡ s ⊗ shifted_at O ss y
  shifted_high s ss zero h d = absurd (d refl)
  shifted_high s ss (suc y) h d = ap (shifted_at O (s ∷ ss)) (Nat·add-suc _ y) ∙ eq_high O s ss y (omega arith)

  -- the seam: the first row of the upper half follows the last of the lower
  shifted_seam : (s : R) (ss : List R) → shifted_at O (s ∷ ss) (2 ^ length ss + 0) ≡ (𝟙 ⊝ s) ⊗ eq_at O ss (last_row O ss)
  shifted_seam s ss =
      let q : 2 ^ length ss + 0 ≡ suc (last_row O ss) = omega (arith, pow_pos (length ss)) in
      ap (shifted_at O (s ∷ ss)) q ∙ eq_low O s ss (last_row O ss) (ones_lt (length ss))

  eq_last : (z : R) (zs : List R) → eq_at O (z ∷ zs) (last_row O (z ∷ zs)) ≡ z ⊗ eq_at O zs (last_row O zs)
  eq_last z zs =
      let q : last_row O (z ∷ zs) ≡ 2 ^ length zs + last_row O zs = omega (arith, pow_pos (length zs), two-pow-succ (length zs)) in
      ap (eq_at O (z ∷ zs)) q ∙ eq_high O z zs (last_row O zs) (ones_lt (length zs))

  pub carry_is : (ss ts : List R) → length ss ≡ length ts → (eval_next O ss ts).carry ≡ eq_at O ss (last_row O ss) ⊗ eq_at O ts 0
  unfolding eval_next eq_at
  carry_is [] [] h = sym (mul_one 𝟙)
  carry_is [] (t ∷ ts) h = absurd (omega arith)
  carry_is (s ∷ ss) [] h = absurd (omega arith)
  carry_is (s ∷ ss) (t ∷ ts) h =
      ap (λ c. s ⊗ (𝟙 ⊝ t) ⊗ c) (carry_is ss ts (omega arith)) ∙ mul_swap4 𝓡 _ _ _ _
      ∙ sym (ap₂ ◌⊗◌ (eq_last s ss) (eq_low O t ts 0 (pow_pos (length ts))))

  pub omega_is : (ss ts : List R) → length ss ≡ length ts → (eval_next O ss ts).omega ≡ eq_at O ss (last_row O ss) ⊗ eq_at O ts (last_row O ts)
  unfolding eval_next eq_at
  omega_is [] [] h = sym (mul_one 𝟙)
  omega_is [] (t ∷ ts) h = absurd (omega arith)
  omega_is (s ∷ ss) [] h = absurd (omega arith)
  omega_is (s ∷ ss) (t ∷ ts) h =
      ap (λ c. s ⊗ t ⊗ c) (omega_is ss ts (omega arith)) ∙ mul_swap4 𝓡 _ _ _ _ ∙ sym (ap₂ ◌⊗◌ (eq_last s ss) (eq_last t ts))

  -- d summed over both halves, and l at the seam
  joined : (s t d l : R) → (𝟙 ⊝ t) ⊗ (𝟙 ⊝ s) ⊗ d ⊕ (t ⊗ s ⊗ d ⊕ l) ≡ agreement O s t ⊗ d ⊕ l
  joined s t d l = reading 𝓡 (s ∷ t ∷ d ∷ l ∷ []) λ q. simp (ring, agreement, q, q.at 0, q.at 1, q.at 2, q.at 3) (q.close tt)

  turned : (s t x y d : R) → t ⊗ y ⊗ ((𝟙 ⊝ s) ⊗ x) ≡ t ⊗ s ⊗ (d ⊗ 𝟘) ⊕ (𝟙 ⊝ s) ⊗ t ⊗ (x ⊗ y)
  turned s t x y d = reading 𝓡 (s ∷ t ∷ x ∷ y ∷ d ∷ []) λ q. simp (ring, q, q.at 0, q.at 1, q.at 2, q.at 3, q.at 4) (q.close tt)

  done_step : (s t : R) (ss ts : List R) → length ss ≡ length ts
      → sum_to O (2 ^ length ss) (λ y. eq_at O ts y ⊗ shifted_at O ss y) ≡ (eval_next O ss ts).done
      → sum_to O (2 ^ suc (length ss)) (λ y. eq_at O (t ∷ ts) y ⊗ shifted_at O (s ∷ ss) y) ≡ (eval_next O (s ∷ ss) (t ∷ ts)).done
  unfolding eval_next
  done_step s t ss ts e ih = sum_halves 𝓡 k F ∙ ap₂ ◌⊕◌ low high ∙ joined s t (eval_next O ss ts).done last
    where
      k : ℕ
      k = length ss

      F : ℕ → R
      F y = eq_at O (t ∷ ts) y ⊗ shifted_at O (s ∷ ss) y

      G : ℕ → R
      G y = eq_at O ts y ⊗ shifted_at O ss y

      last : R
      last = (𝟙 ⊝ s) ⊗ t ⊗ (eval_next O ss ts).carry

      low : sum_to O (2 ^ k) F ≡ (𝟙 ⊝ t) ⊗ (𝟙 ⊝ s) ⊗ (eval_next O ss ts).done
      low =
          sum_scaled 𝓡 (2 ^ k) F G ((𝟙 ⊝ t) ⊗ (𝟙 ⊝ s))
          (λ y h. ap₂ ◌⊗◌ (low_half O k t ts (sym e) y h) (shifted_low s ss y h) ∙ mul_swap4 𝓡 _ _ _ _)
          ∙ ap (λ x. (𝟙 ⊝ t) ⊗ (𝟙 ⊝ s) ⊗ x) ih

      seam : F (2 ^ k + 0) ≡ t ⊗ s ⊗ G 0 ⊕ last
      seam =
          ap₂ ◌⊗◌ (high_half O k t ts (sym e) 0 (pow_pos k)) (shifted_seam s ss) ∙ turned s t _ _ _
          ∙ ap (λ c. t ⊗ s ⊗ G 0 ⊕ (𝟙 ⊝ s) ⊗ t ⊗ c) (sym (carry_is ss ts e))

      high : sum_to O (2 ^ k) (λ y. F (2 ^ k + y)) ≡ t ⊗ s ⊗ (eval_next O ss ts).done ⊕ last
      high =
          sum_gain 𝓡 (2 ^ k) (λ y. t ⊗ s ⊗ G y) (λ y. F (2 ^ k + y)) 0 last (pow_pos k)
          (λ y h d. ap₂ ◌⊗◌ (high_half O k t ts (sym e) y h) (shifted_high s ss y h d) ∙ mul_swap4 𝓡 _ _ _ _) seam
          ∙ ap (λ x. x ⊕ last) (sum_scale 𝓡 (2 ^ k) _ G ∙ ap (λ x. t ⊗ s ⊗ x) ih)

  pub done_is : (ss ts : List R) → length ss ≡ length ts
      → sum_to O (2 ^ length ss) (λ y. eq_at O ts y ⊗ shifted_at O ss y) ≡ (eval_next O ss ts).done
  unfolding eval_next eq_at sum_to
  done_is [] [] h = zero_add 𝓡 _ ∙ mul_zero 𝓡 𝟙
  done_is [] (t ∷ ts) h = absurd (omega arith)
  done_is (s ∷ ss) [] h = absurd (omega arith)
  done_is (s ∷ ss) (t ∷ ts) h = done_step s t ss ts (omega arith) (done_is ss ts (omega arith))

  pub next_is : (ss ts : List R) → length ss ≡ length ts
      → sum_to O (2 ^ length ss) (λ y. eq_at O ts y ⊗ next_at O ss y) ≡ (eval_next O ss ts).done ⊕ (eval_next O ss ts).omega
  next_is ss ts h =
      own_sum 𝓡 (next_beside 𝓡 ss) (λ y x. eq_at O ts y ⊗ x) (λ y. mul_add (eq_at O ts y))
      ∙ ap₂ ◌⊕◌ (done_is ss ts h)
      (mul_comm _ _ ∙ ap (λ n. eq_at O ss (last_row O ss) ⊗ eq_at O ts (2 ^ n - 1)) h ∙ sym (omega_is ss ts h))

  pub cyclic_is : (ss ts : List R) → length ss ≡ length ts
      → sum_to O (2 ^ length ss) (λ y. eq_at O ts y ⊗ cyclic_at O ss y) ≡ (eval_next O ss ts).done ⊕ (eval_next O ss ts).carry
  cyclic_is ss ts h =
      own_sum 𝓡 (cyclic_beside 𝓡 ss) (λ y x. eq_at O ts y ⊗ x) (λ y. mul_add (eq_at O ts y))
      ∙ ap₂ ◌⊕◌ (done_is ss ts h) (mul_comm _ _ ∙ sym (carry_is ss ts h))

  filled : (zs : List R) (y : ℕ) → cyclic_at O zs y ≡ cond (eqb y 0) (eq_at O zs (last_row O zs)) (shifted_at O zs y)
  filled zs zero = refl
  filled zs (suc y) = rw (ne_eqb (suc y) 0 (λ q. omega arith)) refl

  one_row : (cyclic_at O [] 0 ≡ 𝟙) × (next_at O [] 0 ≡ 𝟙)
  unfolding eq_at
  one_row = (refl, zero_add 𝓡 𝟙)

  pub successor_laws : SuccessorLaws O
  successor_laws =
      record {
        shifted = done_is;
        next = next_is;
        cyclic = cyclic_is;
        carry_is = carry_is;
        omega_is = omega_is;
        filled = filled;
        follows = follows 𝓡;
        one_row = one_row;
        two_rows = λ z. (refl, refl);
      }
