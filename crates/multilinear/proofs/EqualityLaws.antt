-- The laws of equality (specs/Laws.antt), over any commutative ring. Assumes nothing.
use mathlib.Core.Path.{◌≡◌, refl, sym, ap, ap₂, ◌∙◌}
use Prim.Native.Nat.{ℕ, zero, suc, ◌^◌, ◌/◌, ◌%◌, ◌<◌, ◌≤◌}
use native.Mathlib.Omega.{arith}
use native.Mathlib.Nat.{two-pow-succ, mul-le-mul_right}
use mathlib.Core.List.{List, [], ◌∷◌, ◌++◌, reverse, reverse-cons, reverse-reverse}
use lib.ListN.{length, length-reverse}
use Rattle.algebra.specs.Ring.{Ops, CommRing, minus}
use Rattle.algebra.specs.Sum.{sum_to}
use Rattle.algebra.proofs.Ring.{zero_add, mul_swap4}
use Rattle.algebra.proofs.Reading.{reading, ring}
use Rattle.multilinear.specs.Equality.{bit, reverse_bits, for_bit, eq_at, eq_lsb_at, agreement}
use Rattle.multilinear.specs.Beside.{eval_eq, line}
use Rattle.multilinear.specs.Laws.{EqualityLaws}
use Rattle.multilinear.proofs.Equality.{eq_low, eq_high, low_half, high_half}
use Rattle.multilinear.proofs.Halves.{sum_doubled}
use Rattle.multilinear.proofs.Split.{eq_append, eq_split}
use Rattle.multilinear.proofs.Vertex.{vertex}

reverse_lt : (k y : ℕ) → reverse_bits k y < 2 ^ k
unfolding reverse_bits
reverse_lt zero y = omega arith
reverse_lt (suc k) y =
    let r : reverse_bits k (y / 2) < 2 ^ k = reverse_lt k (y / 2) in
    let b : y % 2 ≤ 1 = omega arith in
    omega (arith, two-pow-succ k, mul-le-mul_right (2 ^ k) b)

module _ {ℓ} {R : Type ℓ} {O : Ops R} (𝓡 : CommRing O) where
  open 𝓡 use {mul_one, mul_comm}
  open O use {add as ◌⊕◌, mul as ◌⊗◌, one as 𝟙}

  infixl 65 ◌⊕◌
  infixl 70 ◌⊗◌
  infixl 65 ◌⊝◌
  abbrev ◌⊝◌ : R → R → R
  ◌⊝◌ = minus O

  both_halves : (z s : R) → (𝟙 ⊝ z ⊕ z) ⊗ s ≡ s
  both_halves z s = reading 𝓡 (z ∷ s ∷ []) λ q. simp (ring, q, q.at 0, q.at 1) (q.close tt)

  total : (zs : List R) → sum_to O (2 ^ length zs) (eq_at O zs) ≡ 𝟙
  unfolding sum_to eq_at
  total [] = zero_add 𝓡 𝟙
  total (z ∷ zs) =
      sum_doubled 𝓡 (length zs) (eq_at O (z ∷ zs)) (eq_at O zs) (𝟙 ⊝ z) z (eq_low O z zs) (eq_high O z zs) ∙ both_halves z _ ∙ total zs

  agreed : (p q : R) → (𝟙 ⊝ p) ⊗ (𝟙 ⊝ q) ⊕ p ⊗ q ≡ agreement O p q
  agreed a b = reading 𝓡 (a ∷ b ∷ []) λ q. simp (ring, agreement, q, q.at 0, q.at 1) (q.close tt)

  extended : (ps qs : List R) → length ps ≡ length qs → sum_to O (2 ^ length ps) (λ y. eq_at O ps y ⊗ eq_at O qs y) ≡ eval_eq O ps qs
  unfolding sum_to eq_at eval_eq
  extended [] [] h = zero_add 𝓡 _ ∙ mul_one 𝟙
  extended [] (q ∷ qs) h = absurd (omega arith)
  extended (p ∷ ps) [] h = absurd (omega arith)
  extended (p ∷ ps) (q ∷ qs) h =
      let e : length qs ≡ length ps = omega arith in
      sum_doubled 𝓡 (length ps) _ (λ y. eq_at O ps y ⊗ eq_at O qs y) ((𝟙 ⊝ p) ⊗ (𝟙 ⊝ q)) (p ⊗ q)
      (λ y b. ap₂ ◌⊗◌ (eq_low O p ps y b) (low_half O (length ps) q qs e y b) ∙ mul_swap4 𝓡 _ _ _ _)
      (λ y b. ap₂ ◌⊗◌ (eq_high O p ps y b) (high_half O (length ps) q qs e y b) ∙ mul_swap4 𝓡 _ _ _ _)
      ∙ ap₂ ◌⊗◌ (agreed p q) (extended ps qs (omega arith))

  -- at a product with factors on both sides, whichever the bit
  affine_at : (b : ℕ) (a e u v r : R) → a ⊗ (for_bit O b (line O u v r) ⊗ e) ≡ line O (a ⊗ (for_bit O b u ⊗ e)) (a ⊗ (for_bit O b v ⊗ e)) r
  affine_at zero a e u v r =
      reading 𝓡 (a ∷ e ∷ u ∷ v ∷ r ∷ []) λ q. simp (ring, line, q, q.at 0, q.at 1, q.at 2, q.at 3, q.at 4) (q.close tt)
  affine_at (suc b) a e u v r =
      reading 𝓡 (a ∷ e ∷ u ∷ v ∷ r ∷ []) λ q. simp (ring, line, q, q.at 0, q.at 1, q.at 2, q.at 3, q.at 4) (q.close tt)

  affine : (before after : List R) (u v r : R) (y : ℕ)
      → eq_at O (before ++ line O u v r ∷ after) y ≡ line O (eq_at O (before ++ u ∷ after) y) (eq_at O (before ++ v ∷ after) y) r
  unfolding eq_at
  affine before after u v r y =
      eq_append 𝓡 before (line O u v r ∷ after) y
      ∙ affine_at (bit (length after) y) (eq_at O before (y / 2 ^ suc (length after))) (eq_at O after y) u v r
      ∙ sym (ap₂ (λ s t. line O s t r) (eq_append 𝓡 before (u ∷ after) y) (eq_append 𝓡 before (v ∷ after) y))

  -- no bound on y: only its lowest bits are read
  lowest_first : (zs : List R) (y : ℕ) → eq_lsb_at O zs y ≡ eq_at O (reverse zs) y
  unfolding reverse_bits eq_at
  lowest_first [] y = refl
  lowest_first (z ∷ zs) y =
      eq_split 𝓡 (z ∷ []) zs (y % 2) (reverse_bits (length zs) (y / 2)) (reverse_lt (length zs) (y / 2))
      ∙ ap₂ (λ b e. for_bit O b z ⊗ 𝟙 ⊗ e) bits (lowest_first zs (y / 2)) ∙ mul_comm _ _
      ∙ sym (ap (λ s. eq_at O s y) (reverse-cons z zs) ∙ eq_append 𝓡 (reverse zs) (z ∷ []) y)
    where
      bits : y % 2 / 1 % 2 ≡ y / 1 % 2
      bits = omega arith

  -- a point reversed twice is the point
  reversal : (zs : List R) (y : ℕ) → eq_lsb_at O zs (reverse_bits (length zs) y) ≡ eq_at O zs y
  reversal zs y =
      lowest_first zs (reverse_bits (length zs) y) ∙ ap (λ n. eq_at O (reverse zs) (reverse_bits n y)) (sym (length-reverse zs))
      ∙ lowest_first (reverse zs) y ∙ ap (λ s. eq_at O s y) (reverse-reverse zs)

  pub equality_laws : EqualityLaws O
  equality_laws =
      record {
        total = total;
        vertex = vertex 𝓡;
        affine = affine;
        lowest_first = λ zs y h. lowest_first zs y;
        reversal = λ zs y h. reversal zs y;
        extended = extended;
      }
