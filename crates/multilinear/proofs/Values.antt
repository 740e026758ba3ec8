-- The laws of values (specs/Laws.antt), over any commutative ring, and a value by its first coordinate, for the code of evaluations.
-- Assumes nothing.
use mathlib.Core.Path.{◌≡◌, refl, sym, ap, ap₂, ◌∙◌}
use Prim.Native.Nat.{ℕ, suc, ◌+◌, ◌*◌, ◌%◌, ◌^◌, ◌<◌}
use native.Mathlib.Omega.{arith}
use native.Mathlib.Nat.{two-pow-succ}
use mathlib.Core.List.{List, [], ◌∷◌, ◌++◌}
use lib.ListN.{length, length-append}
use lib.Pow.{pow-add}
use borrow.Author.Tests.{eq-eqb, ne_eqb}
use Rattle.algebra.specs.Ring.{Ops, CommRing, minus}
use Rattle.algebra.specs.Sum.{sum_to}
use Rattle.algebra.proofs.Ring.{zero_add, one_mul, zero_mul, mul_zero, mul_left_comm}
use Rattle.algebra.proofs.Reading.{reading, ring}
use Rattle.algebra.proofs.Sums.{sum_ext, sum_none, sum_add, sum_scale, sum_blocks, sum_gain}
use Rattle.multilinear.specs.Equality.{eq_at, vertex_point}
use Rattle.multilinear.specs.Successors.{last_row}
use Rattle.multilinear.specs.Beside.{line}
use Rattle.multilinear.specs.Values.{value_at, next_value_at, cyclic_value_at}
use Rattle.multilinear.specs.Inner.{own_value_at}
use Rattle.multilinear.specs.Laws.{ValueLaws}
use Rattle.multilinear.proofs.Equality.{eq_low, eq_high}
use Rattle.multilinear.proofs.Halves.{sum_halves, sum_scaled}
use Rattle.multilinear.proofs.Split.{eq_split}
use Rattle.multilinear.proofs.Own.{next_beside, cyclic_beside, own_value}
use Rattle.multilinear.proofs.Rounds.{round_sum}
use Rattle.multilinear.proofs.Vertex.{vertex, vertex_length}

module _ {ℓ} {R : Type ℓ} {O : Ops R} (𝓡 : CommRing O) where
  open 𝓡 use {mul_assoc}
  open O use {add as ◌⊕◌, mul as ◌⊗◌, zero as 𝟘, one as 𝟙}

  infixl 65 ◌⊕◌
  infixl 70 ◌⊗◌
  infixl 65 ◌⊝◌
  abbrev ◌⊝◌ : R → R → R
  ◌⊝◌ = minus O

  pub value_empty : (f : ℕ → R) → value_at O [] f ≡ f 0
  unfolding value_at sum_to eq_at
  value_empty f = zero_add 𝓡 _ ∙ one_mul 𝓡 _

  pub value_ext : (zs : List R) (f g : ℕ → R) → ((y : ℕ) → y < 2 ^ length zs → f y ≡ g y) → value_at O zs f ≡ value_at O zs g
  unfolding value_at
  value_ext zs f g e = sum_ext 𝓡 (2 ^ length zs) _ _ (λ y h. ap (O.mul _) (e y h))

  -- the value of a table of zeros
  pub value_none : (zs : List R) → value_at O zs (λ y. 𝟘) ≡ 𝟘
  unfolding value_at
  value_none zs = sum_ext 𝓡 (2 ^ length zs) _ _ (λ y h. mul_zero 𝓡 _) ∙ sum_none 𝓡 (2 ^ length zs)

  -- a line by its weights
  weights : (a b z : R) → (𝟙 ⊝ z) ⊗ a ⊕ z ⊗ b ≡ line O a b z
  weights a b z = reading 𝓡 (a ∷ b ∷ z ∷ []) λ q. simp (ring, line, q, q.at 0, q.at 1, q.at 2) (q.close tt)

  -- the value of the whole from those of the halves
  pub value_step : (z : R) (zs : List R) (f : ℕ → R)
      → value_at O (z ∷ zs) f ≡ value_at O zs f ⊕ (value_at O zs (λ i. f (2 ^ length zs + i)) ⊝ value_at O zs f) ⊗ z
  unfolding value_at
  value_step z zs f =
      sum_halves 𝓡 (length zs) _
      ∙ ap₂ ◌⊕◌
      (sum_scaled 𝓡 (2 ^ length zs) _ _ (𝟙 ⊝ z) (λ y h. ap (λ e. e ⊗ f y) (eq_low O z zs y h) ∙ mul_assoc _ _ _))
      (sum_scaled 𝓡 (2 ^ length zs) _ _ z (λ y h. ap (λ e. e ⊗ f (2 ^ length zs + y)) (eq_high O z zs y h) ∙ mul_assoc _ _ _))
      ∙ weights _ _ z

  spread : (e a b x y : R) → e ⊗ (a ⊗ x ⊕ b ⊗ y) ≡ a ⊗ (e ⊗ x) ⊕ b ⊗ (e ⊗ y)
  spread e a b x y =
      reading 𝓡 (e ∷ a ∷ b ∷ x ∷ y ∷ []) λ q. simp (ring, q, q.at 0, q.at 1, q.at 2, q.at 3, q.at 4) (q.close tt)

  value_linear : (zs : List R) (a b : R) (f g : ℕ → R)
      → value_at O zs (λ y. a ⊗ f y ⊕ b ⊗ g y) ≡ a ⊗ value_at O zs f ⊕ b ⊗ value_at O zs g
  unfolding value_at
  value_linear zs a b f g =
      sum_ext 𝓡 (2 ^ length zs) _ _ (λ y h. spread _ a b (f y) (g y))
      ∙ sum_add 𝓡 (2 ^ length zs) _ _ ∙ ap₂ ◌⊕◌ (sum_scale 𝓡 (2 ^ length zs) a _) (sum_scale 𝓡 (2 ^ length zs) b _)

  -- the value of a line between two tables
  value_line : (zs : List R) (z : R) (f g : ℕ → R) → value_at O zs (λ i. line O (f i) (g i) z) ≡ line O (value_at O zs f) (value_at O zs g) z
  value_line zs z f g = value_ext zs _ _ (λ y h. sym (weights (f y) (g y) z)) ∙ value_linear zs (𝟙 ⊝ z) z f g ∙ weights _ _ z

  value_prefix : (z : R) (zs : List R) (f : ℕ → R)
      → value_at O zs (λ i. line O (f i) (f (2 ^ length zs + i)) z) ≡ value_at O (z ∷ zs) f
  value_prefix z zs f = value_line zs z f (λ i. f (2 ^ length zs + i)) ∙ sym (value_step z zs f)

  -- a point's last coordinate goes with the lowest bit: by the halves, down to the last coordinate alone
  value_suffix : (zs : List R) (z : R) (f : ℕ → R)
      → value_at O zs (λ i. line O (f (2 * i)) (f (2 * i + 1)) z) ≡ value_at O (zs ++ z ∷ []) f
  value_suffix [] z f =
      value_empty _ ∙ sym (value_step z [] f ∙ ap₂ (λ a b. line O a b z) (value_empty f) (value_empty (λ i. f (2 ^ 0 + i))))
  value_suffix (u ∷ zs) z f =
      value_step u zs _
      ∙ ap₂ (λ a b. line O a b u) (value_suffix zs z f) (value_ext zs _ _ (λ i h. upper i) ∙ value_suffix zs z (λ j. f (2 ^ n + j)))
      ∙ sym (value_step u (zs ++ z ∷ []) f)
    where
      n : ℕ
      n = length (zs ++ z ∷ [])

      twice : 2 ^ n ≡ 2 * 2 ^ length zs
      twice =
          let longer : n ≡ suc (length zs) = length-append zs (z ∷ []) ∙ omega arith in
          ap (λ m. 2 ^ m) longer ∙ omega (arith, two-pow-succ (length zs))

      upper : (i : ℕ)
          → line O (f (2 * (2 ^ length zs + i))) (f (2 * (2 ^ length zs + i) + 1)) z
          ≡ line O (f (2 ^ n + 2 * i)) (f (2 ^ n + (2 * i + 1))) z
      upper i = ap₂ (λ a b. line O (f a) (f b) z) (omega (arith, twice)) (omega (arith, twice))

  -- the entry's row alone is not 0
  value_entry : (k v : ℕ) (f : ℕ → R) → v < 2 ^ k → value_at O (vertex_point O k v) f ≡ f v
  unfolding value_at
  value_entry k v f h =
      ap (λ n. sum_to O (2 ^ n) (λ y. eq_at O (vertex_point O k v) y ⊗ f y)) (vertex_length 𝓡 k v)
      ∙ sum_gain 𝓡 (2 ^ k) (λ y. 𝟘) (λ y. eq_at O (vertex_point O k v) y ⊗ f y) v (f v) h
      (λ y b d. ap (λ e. e ⊗ f y) (vertex 𝓡 k v y h b ∙ rw (ne_eqb y v d)) ∙ zero_mul 𝓡 _)
      (ap (λ e. e ⊗ f v) (vertex 𝓡 k v v h h ∙ rw (eq-eqb v v refl)) ∙ one_mul 𝓡 _ ∙ sym (zero_add 𝓡 _))
      ∙ ap (λ x. x ⊕ f v) (sum_none 𝓡 (2 ^ k)) ∙ zero_add 𝓡 (f v)

  pub value_scale : (zs : List R) (a : R) (f : ℕ → R) → value_at O zs (λ y. a ⊗ f y) ≡ a ⊗ value_at O zs f
  unfolding value_at
  value_scale zs a f = sum_scaled 𝓡 (2 ^ length zs) _ _ a (λ y h. mul_left_comm 𝓡 _ _ _)

  -- a block of 2^(length vs) rows for each row of us
  pub value_split : (us vs : List R) (f : ℕ → R)
      → value_at O us (λ h. value_at O vs (λ l. f (h * 2 ^ length vs + l))) ≡ value_at O (us ++ vs) f
  unfolding value_at
  value_split us vs f =
      sum_ext 𝓡 (2 ^ length us) _ _ (λ h b. sym (block h)) ∙ sym (sum_blocks 𝓡 (2 ^ length us) (2 ^ length vs) F)
      ∙ ap (λ n. sum_to O n F) (sym rows)
    where
      F : ℕ → R
      F y = eq_at O (us ++ vs) y ⊗ f y

      rows : 2 ^ length (us ++ vs) ≡ 2 ^ length us * 2 ^ length vs
      rows = ap (λ n. 2 ^ n) (length-append us vs) ∙ pow-add 2 (length us) (length vs)

      block : (h : ℕ) → sum_to O (2 ^ length vs) (λ l. F (h * 2 ^ length vs + l))
          ≡ eq_at O us h ⊗ sum_to O (2 ^ length vs) (λ l. eq_at O vs l ⊗ f (h * 2 ^ length vs + l))
      block h =
          sum_scaled 𝓡 (2 ^ length vs) _ _ (eq_at O us h)
          (λ l b. ap (λ e. e ⊗ f (h * 2 ^ length vs + l)) (eq_split 𝓡 us vs h l b) ∙ mul_assoc _ _ _)

  -- rows 0 and 1: shifted[0] is 0, and next[1] is the whole of eq
  next_of_one : (z : R) (f : ℕ → R) → next_value_at O (z ∷ []) f ≡ f 1
  unfolding next_value_at sum_to eq_at
  next_of_one z f = law z (f 0) (f 1)
    where
      law : (z a b : R) → 𝟘 ⊕ 𝟘 ⊗ a ⊕ ((𝟙 ⊝ z) ⊗ 𝟙 ⊕ z ⊗ 𝟙) ⊗ b ≡ b
      law z a b = reading 𝓡 (z ∷ a ∷ b ∷ []) λ q. simp (ring, q, q.at 0, q.at 1, q.at 2) (q.close tt)

  value_round : (zs : List R) (f : ℕ → R) → cyclic_value_at O zs f ≡ value_at O zs (λ y. f ((y + 1) % 2 ^ length zs))
  unfolding cyclic_value_at value_at
  value_round zs f = round_sum 𝓡 zs (λ y x. x ⊗ f y)

  pub value_laws : ValueLaws O
  value_laws =
      record {
        entry = value_entry;
        prefix = value_prefix;
        suffix = value_suffix;
        linear = value_linear;
        split = value_split;
        next_of_one = next_of_one;
        round = value_round;
      }

  -- the next and the cyclic value by the row that has eq[N-1]
  pub next_value_is : (zs : List R) (f : ℕ → R) → next_value_at O zs f ≡ own_value_at O (last_row O zs) zs f
  unfolding next_value_at
  next_value_is zs f = own_value 𝓡 (next_beside 𝓡 zs) f

  pub cyclic_value_is : (zs : List R) (f : ℕ → R) → cyclic_value_at O zs f ≡ own_value_at O 0 zs f
  unfolding cyclic_value_at
  cyclic_value_is zs f = own_value 𝓡 (cyclic_beside 𝓡 zs) f
