-- The operations of the extension on four numbers, for any modulus and factor. Assumes nothing.
use Prim.Native.Nat.{ℕ, ◌+◌, ◌-◌, ◌*◌, ◌%◌, ◌<◌}
use mathlib.Core.Path.{◌≡◌, refl, sym, ap, ap₂, ◌∙◌}
use mathlib.Core.Bool.{Bool, true, false, cond, not, ◌&&◌}
use mathlib.Core.List.{List, [], ◌∷◌}
use lib.Dec.{eqb}
use native.Mathlib.Nat.{mul-zero, mul_assoc, mul_comm, mul-add}
use native.Mathlib.Omega.{arith}
use Rattle.algebra.specs.Ring.{Ops, minus}
use Rattle.algebra.specs.Residue.{Residue, reduce, residues}
use Rattle.algebra.specs.Quartic.{Quartic, quartic, constant}
use Rattle.algebra.specs.Words.{numbers}
use Rattle.algebra.specs.Lines.{Line, lines, gather, sums, row}
use Rattle.algebra.proofs.Residues.{residue_ring, reduce_val, reduce_add, reduce_mul, reduce_neg, reduce_same}
use Rattle.algebra.proofs.Quartics.{mul_constant, quartic_path}
use Rattle.algebra.proofs.Lines.{line_laws}

module _ (m : ℕ) (pos : 0 < m) where
  pub numbers_again : (x : Quartic (Residue m)) → numbers m pos x.x₀.val x.x₁.val x.x₂.val x.x₃.val ≡ x
  unfolding numbers
  numbers_again x = simp (reduce_val m pos)

  module _ (w a0 a1 a2 a3 b0 b1 b2 b3 : ℕ) where
    abbrev K : Ops (Quartic (Residue m))
    K = quartic (residues m pos) (reduce m pos w)

    pub numbers_add : numbers m pos (a0 + b0) (a1 + b1) (a2 + b2) (a3 + b3) ≡ K.add (numbers m pos a0 a1 a2 a3) (numbers m pos b0 b1 b2 b3)
    unfolding numbers quartic
    numbers_add = simp (reduce_add m pos)

    pub numbers_sub : numbers m pos (a0 + (m - b0 % m)) (a1 + (m - b1 % m)) (a2 + (m - b2 % m)) (a3 + (m - b3 % m))
        ≡ minus K (numbers m pos a0 a1 a2 a3) (numbers m pos b0 b1 b2 b3)
    unfolding numbers quartic
    numbers_sub = simp (reduce_add m pos, reduce_neg m pos)

    pub numbers_neg : numbers m pos (m - a0 % m) (m - a1 % m) (m - a2 % m) (m - a3 % m) ≡ K.neg (numbers m pos a0 a1 a2 a3)
    unfolding numbers quartic
    numbers_neg = simp (reduce_neg m pos)

    -- the product with b0 alone
    pub numbers_scale : numbers m pos (a0 * b0) (a1 * b0) (a2 * b0) (a3 * b0)
        ≡ K.mul (numbers m pos a0 a1 a2 a3) (constant (residues m pos) (reduce m pos w) (reduce m pos b0))
    unfolding numbers
    numbers_scale = simp (reduce_mul m pos) (sym (mul_constant (residue_ring m pos) (reduce m pos w) (numbers m pos a0 a1 a2 a3) (reduce m pos b0)))

  -- the sums of lines, reduced
  reduce_gather : (t : ℕ → ℕ → ℕ) (back : Bool) (k : ℕ) (ls : List (Line Bool)) → reduce m pos (gather ◌+◌ 0 t back k ls)
      ≡ gather (residues m pos).add (residues m pos).zero (λ i j. reduce m pos (t i j)) back k ls
  unfolding gather residues
  reduce_gather t back k [] = refl
  reduce_gather t back k (l ∷ ls) =
      go (eqb l.power k && cond back l.factor (not l.factor)) (t l.i l.j) _ _ (reduce_gather t back k ls)
    where
      go : (s : Bool) (n rest : ℕ) (x : Residue m) → reduce m pos rest ≡ x
          → reduce m pos (cond s (n + rest) rest) ≡ cond s ((residues m pos).add (reduce m pos n) x) x
      go true n rest x e = reduce_add m pos n rest ∙ ap ((residues m pos).add (reduce m pos n)) e
      go false n rest x e = e

  -- the product by the sums of its lines, where d stands in b's place: b times w
  module _ (w : ℕ) (a b d : ℕ → ℕ) where
    abbrev four : (ℕ → ℕ) → Quartic (Residue m)
    four f = numbers m pos (f 0) (f 1) (f 2) (f 3)

    abbrev within : (ℕ → ℕ → Residue m) → Bool → ℕ → Residue m
    within t back k = gather (residues m pos).add (residues m pos).zero t back k (lines false true)

    -- a coordinate
    row_law : ((j : ℕ) → d j % m ≡ b j * w % m) → (k : ℕ)
        → reduce m pos (sums false k a b + sums true k a d)
        ≡ row (residues m pos) (reduce m pos w) (λ i. reduce m pos (a i)) (λ j. reduce m pos (b j))
        (λ j. (residues m pos).mul (reduce m pos (b j)) (reduce m pos w)) k
    row_law h k =
        reduce_add m pos (sums false k a b) (sums true k a d)
        ∙ ap₂ (residues m pos).add
        (reduce_gather (λ i j. a i * b j) false k (lines false true) ∙ (λ q. within (λ i j. reduce_mul m pos (a i) (b j) q) false k))
        (reduce_gather (λ i j. a i * d j) true k (lines false true) ∙ (λ q. within (λ i j. product i j q) true k))
      where
        product : (i j : ℕ) → reduce m pos (a i * d j) ≡ (residues m pos).mul (reduce m pos (a i)) ((residues m pos).mul (reduce m pos (b j)) (reduce m pos w))
        product i j =
            reduce_mul m pos (a i) (d j)
            ∙ ap ((residues m pos).mul (reduce m pos (a i))) (reduce_same m pos (d j) (b j * w) (h j) ∙ reduce_mul m pos (b j) w)

    pub numbers_lines : ((j : ℕ) → d j % m ≡ b j * w % m)
        → four (λ k. sums false k a b + sums true k a d) ≡ (quartic (residues m pos) (reduce m pos w)).mul (four a) (four b)
    unfolding numbers
    numbers_lines h =
        quartic_path (row_law h 0) (row_law h 1) (row_law h 2) (row_law h 3)
        ∙ sym ((line_laws (residue_ring m pos) (reduce m pos w)).rows (λ i. reduce m pos (a i)) (λ j. reduce m pos (b j)))

  -- where b itself stands there, w comes to what came back
  module _ (w : ℕ) (a b : ℕ → ℕ) where
    times_w : (back : Bool) (k : ℕ) (ls : List (Line Bool))
        → gather ◌+◌ 0 (λ i j. a i * (b j * w)) back k ls ≡ w * gather ◌+◌ 0 (λ i j. a i * b j) back k ls
    unfolding gather
    times_w back k [] = sym (mul-zero w)
    times_w back k (l ∷ ls) = go (eqb l.power k && cond back l.factor (not l.factor)) (a l.i) (b l.j) _ _ (times_w back k ls)
      where
        go : (s : Bool) (x y n rest : ℕ) → n ≡ w * rest → cond s (x * (y * w) + n) n ≡ w * cond s (x * y + rest) rest
        go true x y n rest e = ap₂ ◌+◌ (sym (mul_assoc x y w) ∙ mul_comm (x * y) w) e ∙ sym (mul-add w (x * y) rest)
        go false x y n rest e = e

    pub numbers_mul : numbers m pos (sums false 0 a b + w * sums true 0 a b) (sums false 1 a b + w * sums true 1 a b)
        (sums false 2 a b + w * sums true 2 a b)
        (sums false 3 a b + w * sums true 3 a b)
        ≡ (quartic (residues m pos) (reduce m pos w)).mul (numbers m pos (a 0) (a 1) (a 2) (a 3)) (numbers m pos (b 0) (b 1) (b 2) (b 3))
    numbers_mul =
        rw (sym (times_w true 0 (lines false true)), sym (times_w true 1 (lines false true)), sym (times_w true 2 (lines false true)), sym (times_w true 3 (lines false true)))
        (numbers_lines w a b (λ j. b j * w) (λ j. refl))

  -- seven coefficients, those of 1 to X⁶: what stands at X⁴, X⁵ and X⁶ comes back at 1, X and X², times w
  module _ (w : ℕ) where
    abbrev pub folded : (ℕ → ℕ) → Quartic (Residue m)
    folded c = numbers m pos (c 0 + w * c 4) (c 1 + w * c 5) (c 2 + w * c 6) (c 3)

    -- w times a sum, coefficient by coefficient
    folds : (a b c d : ℕ) → a + b + w * (c + d) ≡ a + w * c + (b + w * d)
    folds a b c d = omega arith

    pub folded_add : (c d : ℕ → ℕ) → folded (λ k. c k + d k) ≡ (quartic (residues m pos) (reduce m pos w)).add (folded c) (folded d)
    folded_add c d =
        rw (folds (c 0) (d 0) (c 4) (d 4), folds (c 1) (d 1) (c 5) (d 5), folds (c 2) (d 2) (c 6) (d 6))
        (numbers_add w (c 0 + w * c 4) (c 1 + w * c 5) (c 2 + w * c 6) (c 3) (d 0 + w * d 4) (d 1 + w * d 5) (d 2 + w * d 6) (d 3))
