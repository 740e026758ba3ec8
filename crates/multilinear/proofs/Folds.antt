-- The laws of folds (specs/Laws.antt), over any commutative ring, and folds by words moved a row on, for the code. Assumes nothing.
use mathlib.Core.Path.{◌≡◌, refl, sym, ap, ◌∙◌}
use mathlib.Core.Bool.{cond}
use Prim.Native.Nat.{ℕ, suc, ◌+◌, ◌*◌, ◌%◌, ◌^◌, ◌<◌, ◌≤◌}
use native.Mathlib.Omega.{arith}
use native.Mathlib.Numerals.{add-one}
use native.Mathlib.Nat.{add-zero as Nat·add-zero, add-mul, mul_assoc as mul_assoc', add_assoc as add_assoc'}
use mathlib.Core.List.{List}
use lib.Dec.{ltb}
use lib.ListN.{length}
use lib.Pow.{pow_pos}
use borrow.Author.Tests.{lt-ltb, le-ltb}
use Rattle.algebra.specs.Ring.{Ops, CommRing}
use Rattle.algebra.specs.Sum.{sum_to}
use Rattle.algebra.proofs.Ring.{mul_zero, zero_mul}
use Rattle.algebra.proofs.Sums.{sum_ext, sum_none, sum_add, sum_moved}
use Rattle.multilinear.specs.declared.Side.{Side}
use Rattle.multilinear.specs.declared.Side.TheVariants.{Prefix, Suffix}
use Rattle.multilinear.specs.declared.Weight.{Weight}
use Rattle.multilinear.specs.declared.Weight.TheVariants.{Plain, Shifted, Next, Cyclic}
use Rattle.multilinear.specs.Equality.{eq_at}
use Rattle.multilinear.specs.Successors.{last_row, shifted_at}
use Rattle.multilinear.specs.Values.{value_at}
use Rattle.multilinear.specs.Folds.{word_of, weight_at, fold_at}
use Rattle.multilinear.specs.Inner.{moved_at, own_value_at}
use Rattle.multilinear.specs.Laws.{FoldLaws}
use Rattle.multilinear.proofs.Halves.{sum_scaled}
use Rattle.multilinear.proofs.Own.{next_beside, cyclic_beside, own_gains}
use Rattle.multilinear.proofs.Rounds.{round_sum}

-- with one place a row, the words are the rows
pub word_is_row : (side : Side) (rows y : ℕ) → word_of side 1 rows 0 y ≡ y
word_is_row Prefix rows y = omega arith
word_is_row Suffix rows y = omega arith

module _ {ℓ} {R : Type ℓ} {O : Ops R} (𝓡 : CommRing O) where
  open 𝓡 use {mul_assoc, mul_add}
  open O use {add as ◌⊕◌, mul as ◌⊗◌, zero as 𝟘}

  infixl 65 ◌⊕◌
  infixl 70 ◌⊗◌
  fold_next : (side : Side) (inner : ℕ) (zs : List R) (scale : R) (f : ℕ → R) (i : ℕ)
      → fold_at O side Next inner zs scale f i
      ≡ fold_at O side Shifted inner zs scale f i
      ⊕ scale ⊗ eq_at O zs (last_row O zs) ⊗ f (word_of side inner (2 ^ length zs) i (last_row O zs))
  unfolding fold_at
  fold_next side inner zs scale f i = own_gains 𝓡 (next_beside 𝓡 zs) scale (λ y. f (word_of side inner (2 ^ length zs) i y))

  fold_cyclic : (side : Side) (inner : ℕ) (zs : List R) (scale : R) (f : ℕ → R) (i : ℕ)
      → fold_at O side Cyclic inner zs scale f i
      ≡ fold_at O side Shifted inner zs scale f i ⊕ scale ⊗ eq_at O zs (last_row O zs) ⊗ f (word_of side inner (2 ^ length zs) i 0)
  unfolding fold_at
  fold_cyclic side inner zs scale f i = own_gains 𝓡 (cyclic_beside 𝓡 zs) scale (λ y. f (word_of side inner (2 ^ length zs) i y))

  fold_round : (side : Side) (inner : ℕ) (zs : List R) (scale : R) (f : ℕ → R) (i : ℕ)
      → fold_at O side Cyclic inner zs scale f i
      ≡ sum_to O (2 ^ length zs)
      (λ y. scale ⊗ eq_at O zs y ⊗ f (word_of side inner (2 ^ length zs) i ((y + 1) % 2 ^ length zs)))
  unfolding fold_at
  fold_round side inner zs scale f i = round_sum 𝓡 zs (λ y x. scale ⊗ x ⊗ f (word_of side inner (2 ^ length zs) i y))

  fold_whole : (side : Side) (zs : List R) (scale : R) (f : ℕ → R) → fold_at O side Plain 1 zs scale f 0 ≡ scale ⊗ value_at O zs f
  unfolding fold_at value_at
  fold_whole side zs scale f =
      sum_scaled 𝓡 (2 ^ length zs) _ _ scale
      (λ y h. ap (λ n. scale ⊗ eq_at O zs y ⊗ f n) (word_is_row side (2 ^ length zs) y) ∙ mul_assoc _ _ _)

  -- the word of row y, place i and column j
  fold_columns : (weight : Weight) (inner c : ℕ) (zs : List R) (scale : R) (f : ℕ → R) (i j : ℕ)
      → fold_at O Prefix weight inner zs scale (λ w. f (w * c + j)) i ≡ fold_at O Prefix weight (inner * c) zs scale f (i * c + j)
  unfolding fold_at
  fold_columns weight inner c zs scale f i j =
      sum_ext 𝓡 (2 ^ length zs) _ _
      (λ y b. ap (λ n. scale ⊗ weight_at O weight zs y ⊗ f n)
      (ap (λ n. n + j) (add-mul (y * inner) i c ∙ ap (λ n. n + i * c) (mul_assoc' y inner c)) ∙ add_assoc' (y * (inner * c)) (i * c) j))

  pub fold_laws : FoldLaws O
  fold_laws = record { next = fold_next; cyclic = fold_cyclic; round = fold_round; whole = fold_whole; columns = fold_columns }

  -- a fold goes over sums of tables
  module _ (side : Side) (weight : Weight) (inner : ℕ) (zs : List R) (scale : R) where
    pub fold_ext : (f g : ℕ → R) → ((t : ℕ) → f t ≡ g t) → (i : ℕ)
        → fold_at O side weight inner zs scale f i ≡ fold_at O side weight inner zs scale g i
    unfolding fold_at
    fold_ext f g e i = sum_ext 𝓡 (2 ^ length zs) _ _ (λ y b. ap (O.mul _) (e _))

    pub fold_add : (f g : ℕ → R) (i : ℕ)
        → fold_at O side weight inner zs scale (λ t. f t ⊕ g t) i
        ≡ fold_at O side weight inner zs scale f i ⊕ fold_at O side weight inner zs scale g i
    unfolding fold_at
    fold_add f g i = sum_ext 𝓡 (2 ^ length zs) _ _ (λ y b. mul_add _ _ _) ∙ sum_add 𝓡 (2 ^ length zs) _ _

    pub fold_none : (i : ℕ) → fold_at O side weight inner zs scale (λ t. 𝟘) i ≡ 𝟘
    unfolding fold_at
    fold_none i = sum_ext 𝓡 (2 ^ length zs) _ (λ y. 𝟘) (λ y b. mul_zero 𝓡 _) ∙ sum_none 𝓡 (2 ^ length zs)

  -- the seam: the eq of the last row of a block goes to the first row of the next
  pub shifted_moves : (zs : List R) (a : R) (g h : ℕ → R) → ((y : ℕ) → suc y < 2 ^ length zs → h y ≡ g (suc y))
      → h (last_row O zs) ≡ 𝟘
      → sum_to O (2 ^ length zs) (λ y. a ⊗ shifted_at O zs y ⊗ g y) ≡ sum_to O (2 ^ length zs) (λ y. a ⊗ eq_at O zs y ⊗ h y)
  shifted_moves zs a g h e l =
      sum_moved 𝓡 (2 ^ length zs) _ _ (ap (λ x. x ⊗ g 0) (mul_zero 𝓡 a) ∙ zero_mul 𝓡 (g 0)) (λ y b. ap (O.mul _) (sym (e y b)))
      (ap (O.mul _) l ∙ mul_zero 𝓡 _)

  pub moved_ext : (side : Side) (skip inner : ℕ) (zs : List R) (scale : R) (f : ℕ → R) (i : ℕ) (h : ℕ → R)
      → ((y : ℕ) → y < 2 ^ length zs
      → h y ≡ cond (ltb (y + skip) (2 ^ length zs)) (f (word_of side inner (2 ^ length zs) i (y + skip))) 𝟘)
      → sum_to O (2 ^ length zs) (λ y. scale ⊗ eq_at O zs y ⊗ h y) ≡ moved_at O side skip inner zs scale f i
  unfolding moved_at
  moved_ext side skip inner zs scale f i h e = sum_ext 𝓡 (2 ^ length zs) _ _ (λ y b. ap (O.mul _) (e y b))

  -- scale times the value of a place's words, each of them `skip` rows after its own
  pub moved_value : (side : Side) (skip inner : ℕ) (zs : List R) (scale : R) (f : ℕ → R) (i : ℕ) (h : ℕ → R)
      → ((y : ℕ) → y < 2 ^ length zs
      → h y ≡ cond (ltb (y + skip) (2 ^ length zs)) (f (word_of side inner (2 ^ length zs) i (y + skip))) 𝟘)
      → scale ⊗ value_at O zs h ≡ moved_at O side skip inner zs scale f i
  unfolding value_at
  moved_value side skip inner zs scale f i h e =
      sym (sum_scaled 𝓡 (2 ^ length zs) _ _ scale (λ y b. mul_assoc _ _ _)) ∙ moved_ext side skip inner zs scale f i h e

  pub moved_plain : (side : Side) (inner : ℕ) (zs : List R) (scale : R) (f : ℕ → R) (i : ℕ)
      → moved_at O side 0 inner zs scale f i ≡ fold_at O side Plain inner zs scale f i
  unfolding fold_at
  moved_plain side inner zs scale f i =
      sym (moved_ext side 0 inner zs scale f i _ (λ y b. rw (Nat·add-zero y, lt-ltb y (2 ^ length zs) b)))

  pub moved_shifted : (side : Side) (inner : ℕ) (zs : List R) (scale : R) (f : ℕ → R) (i : ℕ)
      → moved_at O side 1 inner zs scale f i ≡ fold_at O side Shifted inner zs scale f i
  unfolding fold_at
  moved_shifted side inner zs scale f i =
      let past : 2 ^ length zs ≤ last_row O zs + 1 = omega (arith, pow_pos (length zs)) in
      sym
      (shifted_moves zs scale _ (λ y. cond (ltb (y + 1) (2 ^ length zs)) (f (word_of side inner (2 ^ length zs) i (y + 1))) 𝟘)
      (λ y b. rw (add-one y, lt-ltb (suc y) (2 ^ length zs) b)) (rw (le-ltb (last_row O zs + 1) (2 ^ length zs) past))
      ∙ moved_ext side 1 inner zs scale f i _ (λ y b. refl))

  -- by the words one row later
  pub own_value_moved : (own : ℕ) (zs : List R) (f h : ℕ → R) → ((y : ℕ) → suc y < 2 ^ length zs → h y ≡ f (suc y))
      → h (last_row O zs) ≡ 𝟘 → own_value_at O own zs f ≡ value_at O zs h ⊕ eq_at O zs (last_row O zs) ⊗ f own
  unfolding value_at own_value_at
  own_value_moved own zs f h e l =
      ap (λ x. x ⊕ eq_at O zs (last_row O zs) ⊗ f own)
      (sum_moved 𝓡 (2 ^ length zs) _ _ (zero_mul 𝓡 (f 0)) (λ y b. ap (O.mul _) (sym (e y b))) (ap (O.mul _) l ∙ mul_zero 𝓡 _))
