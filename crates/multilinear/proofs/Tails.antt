-- The laws of the sums of the weights from some row on (specs/Laws.antt), over any commutative ring, and that sum by the bits of the
-- row. Assumes nothing.
use mathlib.Core.Path.{◌≡◌, sym, ap, ap₂, ◌∙◌}
use Prim.Native.Nat.{ℕ, zero, suc, ◌+◌, ◌-◌, ◌*◌, ◌^◌, ◌%◌, ◌<◌}
use native.Mathlib.Nat.{add_assoc as Nat·add-assoc, mod-lt, mod-eq_of_lt, two-pow-succ}
use native.Mathlib.Omega.{arith}
use mathlib.Core.List.{List, [], ◌∷◌}
use lib.ListN.{length}
use lib.Pow.{pow_pos}
use Rattle.algebra.specs.Ring.{Ops, CommRing, minus}
use Rattle.algebra.specs.Sum.{sum_to}
use Rattle.algebra.proofs.Ring.{zero_add}
use Rattle.algebra.proofs.Reading.{reading, ring}
use Rattle.algebra.proofs.Sums.{sum_split}
use Rattle.multilinear.specs.declared.Weight.TheVariants.{Plain}
use Rattle.multilinear.specs.Equality.{bit, eq_at}
use Rattle.multilinear.specs.Tails.{tail_at}
use Rattle.multilinear.specs.Inner.{tail_step, tail_by}
use Rattle.multilinear.specs.Laws.{TailLaws}
use Rattle.multilinear.proofs.Equality.{eq_low, eq_high}
use Rattle.multilinear.proofs.EqualityLaws.{equality_laws}
use Rattle.multilinear.proofs.Halves.{sum_scaled}
use Rattle.multilinear.proofs.Vertex.{low_bits}
use Rattle.multilinear.proofs.TailWeights.{none, shifted, next, cyclic, cyclic_all, constant}

module _ {ℓ} {R : Type ℓ} {O : Ops R} (𝓡 : CommRing O) where
  open O use {add as ◌⊕◌, mul as ◌⊗◌, one as 𝟙}

  infixl 65 ◌⊕◌
  infixl 70 ◌⊗◌
  infixl 65 ◌⊝◌
  abbrev ◌⊝◌ : R → R → R
  ◌⊝◌ = minus O

  -- what is left of the lower half, and the upper half
  lower : (z : R) (zs : List R) (m : ℕ) → m < 2 ^ length zs
      → tail_at O Plain (z ∷ zs) m ≡ tail_at O Plain zs m ⊕ z ⊗ (𝟙 ⊝ tail_at O Plain zs m)
  unfolding tail_at
  lower z zs m h = ap (λ n. sum_to O n rows) count ∙ sum_split 𝓡 (2 ^ k) (2 ^ k - m) rows ∙ ap₂ ◌⊕◌ low high ∙ joined _
    where
      k : ℕ
      k = length zs

      rows : ℕ → R
      rows j = eq_at O (z ∷ zs) (m + j)

      count : 2 ^ suc k - m ≡ 2 ^ k - m + 2 ^ k
      count = omega (arith, two-pow-succ k, h)

      low : sum_to O (2 ^ k - m) rows ≡ (𝟙 ⊝ z) ⊗ sum_to O (2 ^ k - m) (λ j. eq_at O zs (m + j))
      low = sum_scaled 𝓡 (2 ^ k - m) rows _ (𝟙 ⊝ z) (λ y b. eq_low O z zs (m + y) (omega arith))

      above : (y : ℕ) → m + (2 ^ k - m + y) ≡ 2 ^ k + y
      above y = omega (arith, h)

      high : sum_to O (2 ^ k) (λ y. rows (2 ^ k - m + y)) ≡ z ⊗ 𝟙
      high =
          sum_scaled 𝓡 (2 ^ k) _ (eq_at O zs) z (λ y b. ap (eq_at O (z ∷ zs)) (above y) ∙ eq_high O z zs y b)
          ∙ ap (O.mul z) ((equality_laws 𝓡).total zs)

      joined : (s : R) → (𝟙 ⊝ z) ⊗ s ⊕ z ⊗ 𝟙 ≡ s ⊕ z ⊗ (𝟙 ⊝ s)
      joined s = reading 𝓡 (z ∷ s ∷ []) λ q. simp (ring, q, q.at 0, q.at 1) (q.close tt)

  upper : (z : R) (zs : List R) (m : ℕ) → m < 2 ^ length zs → tail_at O Plain (z ∷ zs) (2 ^ length zs + m) ≡ z ⊗ tail_at O Plain zs m
  unfolding tail_at
  upper z zs m h =
      let count : 2 ^ suc (length zs) - (2 ^ length zs + m) ≡ 2 ^ length zs - m = omega (arith, two-pow-succ (length zs)) in
      ap (λ n. sum_to O n (λ j. eq_at O (z ∷ zs) (2 ^ length zs + m + j))) count
      ∙ sum_scaled 𝓡 (2 ^ length zs - m) _ _ z
      (λ y b. ap (eq_at O (z ∷ zs)) (Nat·add-assoc (2 ^ length zs) m y) ∙ eq_high O z zs (m + y) (omega arith))

  pub tail_laws : TailLaws O
  tail_laws =
      record {
        lower = lower;
        upper = upper;
        shifted = shifted 𝓡;
        next = next 𝓡;
        cyclic = cyclic 𝓡;
        cyclic_all = cyclic_all 𝓡;
        none = none 𝓡;
        constant = constant 𝓡;
      }

  -- a coordinate more in front, and its bit in front of the row's
  tail_step_lem : (b : ℕ) (z : R) (zs : List R) (m : ℕ) → b < 2 → m < 2 ^ length zs
      → tail_step O b z (tail_at O Plain zs m) ≡ tail_at O Plain (z ∷ zs) (b * 2 ^ length zs + m)
  tail_step_lem zero z zs m c h =
      let q : m ≡ 0 * 2 ^ length zs + m = omega arith in
      sym (lower z zs m h) ∙ ap (tail_at O Plain (z ∷ zs)) q
  tail_step_lem (suc zero) z zs m c h =
      let q : 2 ^ length zs + m ≡ 1 * 2 ^ length zs + m = omega arith in
      sym (upper z zs m h) ∙ ap (tail_at O Plain (z ∷ zs)) q
  tail_step_lem (suc (suc b)) z zs m c h = absurd (omega arith)

  -- no bound on m: only its lowest bits are read
  tail_lowest : (zs : List R) (m : ℕ) → tail_by O zs m ≡ tail_at O Plain zs (m % 2 ^ length zs)
  unfolding tail_by tail_at sum_to eq_at
  tail_lowest [] m =
      let q : 0 ≡ m % 1 = omega arith in
      sym (zero_add 𝓡 𝟙) ∙ ap (tail_at O Plain []) q
  tail_lowest (z ∷ zs) m =
      ap (tail_step O (bit (length zs) m) z) (tail_lowest zs m)
      ∙ tail_step_lem (bit (length zs) m) z zs (m % 2 ^ length zs) (omega arith) (mod-lt m (pow_pos (length zs)))
      ∙ sym (ap (tail_at O Plain (z ∷ zs)) (low_bits (length zs) m))

  pub tail_by_lem : (zs : List R) (m : ℕ) → m < 2 ^ length zs → tail_by O zs m ≡ tail_at O Plain zs m
  tail_by_lem zs m h = tail_lowest zs m ∙ ap (tail_at O Plain zs) (mod-eq_of_lt h)
