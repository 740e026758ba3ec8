-- The laws of finite sums over a commutative ring. Assumes nothing.
use mathlib.Core.Path.{◌≡◌, refl, sym, ap, ap₂, ◌∙◌}
use mathlib.Core.Logic.{◌≢◌}
use Prim.Native.Nat.{ℕ, zero, suc, ◌+◌, ◌-◌, ◌*◌, ◌≤◌, ◌<◌}
use native.Mathlib.Omega.{arith}
use native.Mathlib.Decide.{dec_lt}
use native.Mathlib.Nat.{add-zero as Nat·add-zero, add-suc as Nat·add-suc, zero-mul as Nat·zero-mul, suc-mul as Nat·suc-mul}
use Rattle.algebra.specs.Ring.{Ops, CommRing}
use Rattle.algebra.specs.Sum.{sum_to}
use Rattle.algebra.proofs.Ring.{mul_zero, swap4}

module _ {ℓ} {R : Type ℓ} {O : Ops R} (𝓡 : CommRing O) where
  open 𝓡 use {add_assoc, add_comm, add_zero, mul_add}
  open O use {add as ◌⊕◌, mul as ◌⊗◌, zero as 𝟘}

  infixl 65 ◌⊕◌
  infixl 70 ◌⊗◌
  -- equal summands, equal sums
  pub sum_ext : (n : ℕ) (f g : ℕ → R) → ((y : ℕ) → y < n → f y ≡ g y) → sum_to O n f ≡ sum_to O n g
  unfolding sum_to
  sum_ext zero f g e = refl
  sum_ext (suc n) f g e = let r = sum_ext n f g (λ y h. e y (omega arith)) in let l = e n (omega arith) in cc

  pub sum_none : (n : ℕ) → sum_to O n (λ y. 𝟘) ≡ 𝟘
  unfolding sum_to
  sum_none zero = refl
  sum_none (suc n) = add_zero _ ∙ sum_none n

  -- the sum of sums
  pub sum_add : (n : ℕ) (f g : ℕ → R) → sum_to O n (λ y. f y ⊕ g y) ≡ sum_to O n f ⊕ sum_to O n g
  unfolding sum_to
  sum_add zero f g = sym (add_zero 𝟘)
  sum_add (suc n) f g = ap (λ x. x ⊕ (f n ⊕ g n)) (sum_add n f g) ∙ swap4 𝓡 _ _ _ _

  pub sum_scale : (n : ℕ) (c : R) (f : ℕ → R) → sum_to O n (λ y. c ⊗ f y) ≡ c ⊗ sum_to O n f
  unfolding sum_to
  sum_scale zero c f = sym (mul_zero 𝓡 c)
  sum_scale (suc n) c f = ap (λ x. x ⊕ c ⊗ f n) (sum_scale n c f) ∙ sym (mul_add c _ _)

  -- a sum in two orders
  pub sum_swap : (n m : ℕ) (f : ℕ → ℕ → R) → sum_to O n (λ i. sum_to O m (f i)) ≡ sum_to O m (λ j. sum_to O n (λ i. f i j))
  unfolding sum_to
  sum_swap zero m f = sym (sum_none m)
  sum_swap (suc n) m f = ap (λ x. x ⊕ sum_to O m (f n)) (sum_swap n m f) ∙ sym (sum_add m (λ j. sum_to O n (λ i. f i j)) (f n))

  -- split at m
  pub sum_split : (n m : ℕ) (f : ℕ → R) → sum_to O (m + n) f ≡ sum_to O m f ⊕ sum_to O n (λ y. f (m + y))
  unfolding sum_to
  sum_split zero m f = rw Nat·add-zero (sym (add_zero _))
  sum_split (suc n) m f = rw Nat·add-suc (ap (λ x. x ⊕ f (m + n)) (sum_split n m f) ∙ add_assoc _ _ _)

  -- the n summands from a on, where all others of m are 0
  pub sum_middle : (m a n : ℕ) (f : ℕ → R) → a + n ≤ m → ((y : ℕ) → y < a → f y ≡ 𝟘) → ((y : ℕ) → a + n ≤ y → f y ≡ 𝟘)
      → sum_to O m f ≡ sum_to O n (λ y. f (a + y))
  sum_middle m a n f h before after =
      let q : a + n + (m - (a + n)) ≡ m = omega arith in
      ap (λ k. sum_to O k f) (sym q) ∙ sum_split (m - (a + n)) (a + n) f
      ∙ ap₂ ◌⊕◌ (sum_split n a f) (sum_ext (m - (a + n)) _ _ (λ y b. after (a + n + y) (omega arith)) ∙ sum_none _) ∙ add_zero _
      ∙ ap (λ x. x ⊕ sum_to O n (λ y. f (a + y))) (sum_ext a _ _ before ∙ sum_none a) ∙ add_comm _ _ ∙ add_zero _

  -- split at every edge of a blocks of b
  pub sum_blocks : (a b : ℕ) (f : ℕ → R) → sum_to O (a * b) f ≡ sum_to O a (λ i. sum_to O b (λ j. f (i * b + j)))
  unfolding sum_to
  sum_blocks zero b f = rw Nat·zero-mul
  sum_blocks (suc a) b f = rw Nat·suc-mul (sum_split b (a * b) f ∙ ap (λ x. x ⊕ sum_to O b (λ j. f (a * b + j))) (sum_blocks a b f))

  -- the summands of g one place later, after a 0
  sum_later : (n : ℕ) (f g : ℕ → R) → f 0 ≡ 𝟘 → ((y : ℕ) → y < n → f (suc y) ≡ g y) → sum_to O (suc n) f ≡ sum_to O n g
  unfolding sum_to
  sum_later zero f g z e = ap (λ x. 𝟘 ⊕ x) z ∙ add_zero 𝟘
  sum_later (suc n) f g z e = ap₂ ◌⊕◌ (sum_later n f g z (λ y h. e y (omega arith))) (e n (omega arith))

  -- the same over as many summands, the last of g being 0
  pub sum_moved : (n : ℕ) (f g : ℕ → R) → f 0 ≡ 𝟘 → ((y : ℕ) → suc y < n → f (suc y) ≡ g y) → g (n - 1) ≡ 𝟘
      → sum_to O n f ≡ sum_to O n g
  unfolding sum_to
  sum_moved zero f g z e l = refl
  sum_moved (suc n) f g z e l =
      let q : n ≡ suc n - 1 = omega arith in
      sum_later n f g z (λ y h. e y (omega arith)) ∙ sym (ap (λ x. sum_to O n g ⊕ x) (ap g q ∙ l) ∙ add_zero _)

  -- one summand gains c: so does the sum
  pub sum_gain : (n : ℕ) (f g : ℕ → R) (y₀ : ℕ) (c : R) → y₀ < n → ((y : ℕ) → y < n → y ≢ y₀ → g y ≡ f y)
      → g y₀ ≡ f y₀ ⊕ c → sum_to O n g ≡ sum_to O n f ⊕ c
  unfolding sum_to
  sum_gain zero f g y₀ c h e l = absurd (omega arith)
  sum_gain (suc n) f g y₀ c h e l = go (dec_lt y₀ n) (λ h'. sum_gain n f g y₀ c h' (λ y hy d. e y (omega arith) d) l)
    where
      go : Dec (y₀ < n) → (y₀ < n → sum_to O n g ≡ sum_to O n f ⊕ c) → sum_to O (suc n) g ≡ sum_to O (suc n) f ⊕ c
      go (yes h') ih =
          ap₂ ◌⊕◌ (ih h') (e n (omega arith) (omega arith))
          ∙ (add_assoc _ _ _ ∙ ap (λ x. sum_to O n f ⊕ x) (add_comm _ _) ∙ sym (add_assoc _ _ _))
      go (no h') ih =
          let q : y₀ ≡ n = omega arith in
          let l' : g n ≡ f n ⊕ c = rw q at l in
          ap₂ ◌⊕◌ (sum_ext n g f (λ y hy. e y (omega arith) (omega arith))) l' ∙ (sym (add_assoc _ _ _))
