-- The solver of ring equations is right: expressions that agree are equal in every commutative ring, at every value of their
-- variables. Assumes nothing.
use mathlib.Core.Path.{◌≡◌, refl, sym, ◌∙◌, ap, ap₂}
use mathlib.Core.List.{List, [], ◌∷◌}
use mathlib.Core.Bool.{Bool, true, false, ◌&&◌}
use Prim.Native.Nat.{ℕ, zero, suc, ◌+◌, ◌*◌, compare, Ordering}
use native.Mathlib.Nat.{add-suc, mul-suc, add-zero as ℕ-add-zero, mul-zero as ℕ-mul-zero}
use lib.Dec.{T, eqb, eqb→eq, compare_is_eq}
use Rattle.algebra.specs.Ring.{Ops, CommRing}
use Rattle.algebra.proofs.Ring
use Rattle.algebra.proofs.Normal.{Expr, var, lit, zer, one, add, mul, neg, sub, Sum, none, more, ins, join, cmp, into, both, scale, times, flip, norm, null, agree}

cmp_eq : (m k : List ℕ) → T (compare_is_eq (cmp m k)) → m ≡ k
cmp_eq [] [] t = refl
cmp_eq [] (j ∷ n) t = absurd t
cmp_eq (i ∷ m) [] t = absurd t
cmp_eq (i ∷ m) (j ∷ n) t = go (compare i j) refl (cmp_eq m n) t
  where
    go : (o : Ordering) → compare i j ≡ o → (T (compare_is_eq (cmp m n)) → m ≡ n) → T (compare_is_eq (elim o [ Ordering.lt ↦ Ordering.lt | Ordering.eq ↦ cmp m n | Ordering.gt ↦ Ordering.gt ])) → ◌≡◌ {A = List ℕ} (i ∷ m) (j ∷ n)
    go Ordering.lt e h t = absurd t
    go Ordering.eq e h t = ap₂ ◌∷◌ (eqb→eq i j (rw e tt)) (h t)
    go Ordering.gt e h t = absurd t

module _ {ℓ} {R : Type ℓ} {O : Ops R} (𝓡 : CommRing O) where
  open 𝓡 use {add_assoc, add_comm, add_zero, add_neg, mul_assoc, mul_comm, mul_one, mul_add}
  open O use {add as ◌⊕◌, mul as ◌⊗◌, neg as ⊖◌, zero as 𝟘, one as 𝟙}

  infixl 65 ◌⊕◌
  infixl 70 ◌⊗◌
  infix 75 ⊖◌
  abbrev pub nat : ℕ → R
  nat zero = 𝟘
  nat (suc n) = nat n ⊕ 𝟙

  abbrev pub nth : List R → ℕ → R
  nth [] i = 𝟘
  nth (x ∷ ρ) zero = x
  nth (x ∷ ρ) (suc i) = nth ρ i

  abbrev pub den : Expr → List R → R
  den (var i) ρ = nth ρ i
  den (lit k) ρ = nat k
  den zer ρ = 𝟘
  den one ρ = 𝟙
  den (add a b) ρ = den a ρ ⊕ den b ρ
  den (mul a b) ρ = den a ρ ⊗ den b ρ
  den (neg a) ρ = ⊖ (den a ρ)

  co : ℕ → ℕ → R
  co p n = nat p ⊕ ⊖ (nat n)

  abbrev mono : List ℕ → List R → R
  mono [] ρ = 𝟙
  mono (i ∷ m) ρ = nth ρ i ⊗ mono m ρ

  abbrev total : Sum → List R → R
  total none ρ = 𝟘
  total (more p n m s) ρ = co p n ⊗ mono m ρ ⊕ total s ρ

  nat_add : (m n : ℕ) → nat (m + n) ≡ nat m ⊕ nat n
  nat_add m zero = ap nat (ℕ-add-zero m) ∙ sym (add_zero (nat m))
  nat_add m (suc n) = ap nat (add-suc m n) ∙ ap (λ x. x ⊕ 𝟙) (nat_add m n) ∙ add_assoc (nat m) (nat n) 𝟙

  nat_mul : (m n : ℕ) → nat (m * n) ≡ nat m ⊗ nat n
  nat_mul m zero = ap nat (ℕ-mul-zero m) ∙ sym (Ring.mul_zero 𝓡 (nat m))
  nat_mul m (suc n) = ap nat (mul-suc m n) ∙ nat_add (m * n) m ∙ ap₂ ◌⊕◌ (nat_mul m n) (sym (mul_one (nat m))) ∙ sym (mul_add (nat m) (nat n) 𝟙)

  co_add : (p n q r : ℕ) → co (p + q) (n + r) ≡ co p n ⊕ co q r
  unfolding co
  co_add p n q r =
      ap₂ (λ x y. x ⊕ ⊖ y) (nat_add p q) (nat_add n r) ∙ ap (λ x. nat p ⊕ nat q ⊕ x) (Ring.neg_add 𝓡 (nat n) (nat r))
      ∙ Ring.swap4 𝓡 (nat p) (nat q) (⊖ (nat n)) (⊖ (nat r))

  co_mul : (p n q r : ℕ) → co (p * q + n * r) (p * r + n * q) ≡ co p n ⊗ co q r
  unfolding co
  co_mul p n q r = simp (co, nat_add, nat_mul, mul_add, Ring.add_mul 𝓡, Ring.neg_add 𝓡, Ring.neg_mul 𝓡, Ring.mul_neg 𝓡, Ring.neg_neg 𝓡, add_assoc, add_comm, Ring.add_left_comm 𝓡)

  co_flip : (p n : ℕ) → co n p ≡ ⊖ (co p n)
  unfolding co
  co_flip p n = simp (Ring.neg_add 𝓡, Ring.neg_neg 𝓡, add_comm)

  co_same : (p n : ℕ) → p ≡ n → co p n ≡ 𝟘
  unfolding co
  co_same p n e = ap (λ x. nat x ⊕ ⊖ (nat n)) e ∙ add_neg (nat n)

  co_one : co 1 0 ≡ 𝟙
  unfolding co
  co_one = ap₂ ◌⊕◌ (Ring.zero_add 𝓡 𝟙) (Ring.neg_zero 𝓡) ∙ add_zero 𝟙

  co_lit : (k : ℕ) → co k 0 ≡ nat k
  unfolding co
  co_lit k = ap (λ x. nat k ⊕ x) (Ring.neg_zero 𝓡) ∙ add_zero (nat k)

  mono_ins : (i : ℕ) (m : List ℕ) (ρ : List R) → mono (ins i m) ρ ≡ nth ρ i ⊗ mono m ρ
  mono_ins i [] ρ = refl
  mono_ins i (j ∷ m) ρ = go (compare i j) (mono_ins i m ρ)
    where
      go : (o : Ordering) → mono (ins i m) ρ ≡ nth ρ i ⊗ mono m ρ → mono (elim o [ Ordering.lt ↦ i ∷ j ∷ m | Ordering.eq ↦ i ∷ j ∷ m | Ordering.gt ↦ j ∷ ins i m ]) ρ ≡ nth ρ i ⊗ (nth ρ j ⊗ mono m ρ)
      go Ordering.lt h = refl
      go Ordering.eq h = refl
      go Ordering.gt h = ap (λ x. nth ρ j ⊗ x) h ∙ Ring.mul_left_comm 𝓡 (nth ρ j) (nth ρ i) (mono m ρ)

  mono_join : (m n : List ℕ) (ρ : List R) → mono (join m n) ρ ≡ mono m ρ ⊗ mono n ρ
  mono_join [] n ρ = sym (Ring.one_mul 𝓡 (mono n ρ))
  mono_join (i ∷ m) n ρ = mono_ins i (join m n) ρ ∙ ap (λ x. nth ρ i ⊗ x) (mono_join m n ρ) ∙ sym (mul_assoc (nth ρ i) (mono m ρ) (mono n ρ))

  total_into : (p n : ℕ) (m : List ℕ) (s : Sum) (f : Sum → Sum) (t : Sum) (ρ : List R)
      → ((x : Sum) → total (f x) ρ ≡ total s ρ ⊕ total x ρ) → total (into p n m s f t) ρ ≡ co p n ⊗ mono m ρ ⊕ total s ρ ⊕ total t ρ
  total_into p n m s f none ρ hf = sym (add_zero (co p n ⊗ mono m ρ ⊕ total s ρ))
  total_into p n m s f (more q r k t) ρ hf = go (cmp m k) refl (total_into p n m s f t ρ hf)
    where
      go : (o : Ordering) → cmp m k ≡ o → total (into p n m s f t) ρ ≡ co p n ⊗ mono m ρ ⊕ total s ρ ⊕ total t ρ → total (elim o [ Ordering.lt ↦ more p n m (f (more q r k t)) | Ordering.eq ↦ more (p + q) (n + r) k (f t) | Ordering.gt ↦ more q r k (into p n m s f t) ]) ρ ≡ co p n ⊗ mono m ρ ⊕ total s ρ ⊕ (co q r ⊗ mono k ρ ⊕ total t ρ)
      go Ordering.lt e h =
          ap (λ x. co p n ⊗ mono m ρ ⊕ x) (hf (more q r k t))
          ∙ sym (add_assoc (co p n ⊗ mono m ρ) (total s ρ) (co q r ⊗ mono k ρ ⊕ total t ρ))
      go Ordering.eq e h =
          let c : m ≡ k = cmp_eq m k (rw e tt) in
          ap₂ ◌⊕◌ (ap (λ x. x ⊗ mono k ρ) (co_add p n q r) ∙ Ring.add_mul 𝓡 (co p n) (co q r) (mono k ρ) ∙ ap (λ x. co p n ⊗ mono x ρ ⊕ co q r ⊗ mono k ρ) (sym c)) (hf t) ∙ Ring.swap4 𝓡 (co p n ⊗ mono m ρ) (co q r ⊗ mono k ρ) (total s ρ) (total t ρ)
      go Ordering.gt e h = ap (λ x. co q r ⊗ mono k ρ ⊕ x) h ∙ Ring.add_left_comm 𝓡 (co q r ⊗ mono k ρ) (co p n ⊗ mono m ρ ⊕ total s ρ) (total t ρ)

  total_both : (s t : Sum) (ρ : List R) → total (both s t) ρ ≡ total s ρ ⊕ total t ρ
  total_both none t ρ = sym (Ring.zero_add 𝓡 (total t ρ))
  total_both (more p n m s) t ρ = total_into p n m s (λ x. both s x) t ρ (λ x. total_both s x ρ)

  total_scale : (p n : ℕ) (m : List ℕ) (s : Sum) (ρ : List R) → total (scale p n m s) ρ ≡ co p n ⊗ mono m ρ ⊗ total s ρ
  total_scale p n m none ρ = sym (Ring.mul_zero 𝓡 (co p n ⊗ mono m ρ))
  total_scale p n m (more q r k s) ρ =
      ap₂ ◌⊕◌ (ap₂ ◌⊗◌ (co_mul p n q r) (mono_join m k ρ) ∙ Ring.mul_swap4 𝓡 (co p n) (co q r) (mono m ρ) (mono k ρ)) (total_scale p n m s ρ)
      ∙ sym (mul_add (co p n ⊗ mono m ρ) (co q r ⊗ mono k ρ) (total s ρ))

  total_times : (s t : Sum) (ρ : List R) → total (times s t) ρ ≡ total s ρ ⊗ total t ρ
  total_times none t ρ = sym (Ring.zero_mul 𝓡 (total t ρ))
  total_times (more p n m s) t ρ =
      total_both (scale p n m t) (times s t) ρ ∙ ap₂ ◌⊕◌ (total_scale p n m t ρ) (total_times s t ρ)
      ∙ sym (Ring.add_mul 𝓡 (co p n ⊗ mono m ρ) (total s ρ) (total t ρ))

  total_flip : (s : Sum) (ρ : List R) → total (flip s) ρ ≡ ⊖ (total s ρ)
  total_flip none ρ = sym (Ring.neg_zero 𝓡)
  total_flip (more p n m s) ρ =
      ap₂ ◌⊕◌ (ap (λ x. x ⊗ mono m ρ) (co_flip p n) ∙ Ring.neg_mul 𝓡 (co p n) (mono m ρ)) (total_flip s ρ)
      ∙ sym (Ring.neg_add 𝓡 (co p n ⊗ mono m ρ) (total s ρ))

  total_null : (s : Sum) (ρ : List R) → T (null s) → total s ρ ≡ 𝟘
  total_null none ρ t = refl
  total_null (more p n m s) ρ t = go (eqb p n) refl (total_null s ρ) t
    where
      go : (b : Bool) → eqb p n ≡ b → (T (null s) → total s ρ ≡ 𝟘) → T (b && null s) → co p n ⊗ mono m ρ ⊕ total s ρ ≡ 𝟘
      go true e h t = ap₂ ◌⊕◌ (ap (λ x. x ⊗ mono m ρ) (co_same p n (eqb→eq p n (rw e tt))) ∙ Ring.zero_mul 𝓡 (mono m ρ)) (h t) ∙ add_zero 𝟘
      go false e h t = absurd t

  norm_sound : (a : Expr) (ρ : List R) → den a ρ ≡ total (norm a) ρ
  norm_sound (var i) ρ = sym (add_zero (co 1 0 ⊗ (nth ρ i ⊗ 𝟙)) ∙ ap₂ ◌⊗◌ co_one (mul_one (nth ρ i)) ∙ Ring.one_mul 𝓡 (nth ρ i))
  norm_sound (lit k) ρ = sym (add_zero (co k 0 ⊗ 𝟙) ∙ mul_one (co k 0) ∙ co_lit k)
  norm_sound zer ρ = refl
  norm_sound one ρ = sym (add_zero (co 1 0 ⊗ 𝟙) ∙ mul_one (co 1 0) ∙ co_one)
  norm_sound (add a b) ρ = ap₂ ◌⊕◌ (norm_sound a ρ) (norm_sound b ρ) ∙ sym (total_both (norm a) (norm b) ρ)
  norm_sound (mul a b) ρ = ap₂ ◌⊗◌ (norm_sound a ρ) (norm_sound b ρ) ∙ sym (total_times (norm a) (norm b) ρ)
  norm_sound (neg a) ρ = ap ⊖◌ (norm_sound a ρ) ∙ sym (total_flip (norm a) ρ)

  -- two expressions that agree when multiplied out are equal in every ring, at every value of the variables
  pub solve : (ρ : List R) (a b : Expr) → T (agree a b) → den a ρ ≡ den b ρ
  solve ρ a b t =
      let z : ⊖ (den b ρ) ⊕ den a ρ ≡ 𝟘 = ap₂ ◌⊕◌ (ap ⊖◌ (norm_sound b ρ) ∙ sym (total_flip (norm b) ρ)) (norm_sound a ρ) ∙ sym (total_both (flip (norm b)) (norm a) ρ) ∙ total_null (both (flip (norm b)) (norm a)) ρ t in
      Ring.add_cancel 𝓡 (⊖ (den b ρ)) (den a ρ) (den b ρ) (z ∙ sym (add_comm (⊖ (den b ρ)) (den b ρ) ∙ add_neg (den b ρ)))

  -- from one equation: `a - b` is `c` times `l - r`, when multiplied out
  pub solve_from : (ρ : List R) (a b c l r : Expr) → den l ρ ≡ den r ρ → T (agree (sub a b) (mul c (sub l r))) → den a ρ ≡ den b ρ
  solve_from ρ a b c l r h t = Ring.eq_of_sub 𝓡 (den a ρ) (den b ρ) (solve ρ (sub a b) (mul c (sub l r)) t ∙ ap (λ x. den c ρ ⊗ (x ⊕ ⊖ (den r ρ))) h ∙ ap (λ x. den c ρ ⊗ x) (add_neg (den r ρ)) ∙ Ring.mul_zero 𝓡 (den c ρ))
