-- Reading an equation of a ring into expressions, so that `solve` closes it: `simp` does it, by the laws of `Reader` from left to
-- right. With the values of the variables in a list,
--
--     reading 𝓡 (a ∷ b ∷ []) λ q. simp (ring, q, q.at 0, q.at 1) (q.close tt)
--
-- proves an equation in a and b. Assumes nothing.
use mathlib.Core.Path.{◌≡◌, refl, ◌∙◌, ap}
use mathlib.Core.List.{List}
use Prim.Native.Nat.{ℕ}
use lib.Dec.{T}
use Rattle.algebra.specs.Ring.{Ops, CommRing, minus}
use Rattle.algebra.proofs.Normal.{Expr, var, lit, zer, one, add, mul, neg, sub, agree}
use Rattle.algebra.proofs.Solve.{nat, nth, den, solve, solve_from}

pub record Reader {ℓ} {R : Type ℓ} {O : Ops R} (𝓡 : CommRing O) (ρ : List R) : Type ℓ where
  pub val : Expr → R
  pub at : (i : ℕ) → nth 𝓡 ρ i ≡ val (var i)
  pub sum : (a b : Expr) → O.add (val a) (val b) ≡ val (add a b)
  pub product : (a b : Expr) → O.mul (val a) (val b) ≡ val (mul a b)
  pub minus : (a : Expr) → O.neg (val a) ≡ val (neg a)
  pub nought : O.zero ≡ val zer
  pub unit : O.one ≡ val one
  pub numeral : (k : ℕ) → nat 𝓡 k ≡ val (lit k)
  pub close : {a b : Expr} → T (agree a b) → val a ≡ val b
  pub close_from : {a b l r : Expr} (c : Expr) → val l ≡ val r → T (agree (sub a b) (mul c (sub l r))) → val a ≡ val b

pub reader {ℓ} : {R : Type ℓ} {O : Ops R} (𝓡 : CommRing O) (ρ : List R) → Reader 𝓡 ρ
reader 𝓡 ρ = record {
  val = λ a. den 𝓡 a ρ;
  at = λ i. refl;
  sum = λ a b. refl;
  product = λ a b. refl;
  minus = λ a. refl;
  nought = refl;
  unit = refl;
  numeral = λ k. refl;
  close = λ {a} {b} t. solve 𝓡 ρ a b t;
  close_from = λ {a} {b} {l} {r} c h t. solve_from 𝓡 ρ a b c l r h t;
}

pub reading {ℓ κ} : {R : Type ℓ} {G : Type κ} {O : Ops R} (𝓡 : CommRing O) (ρ : List R) → (Reader 𝓡 ρ → G) → G
reading 𝓡 ρ k = k (reader 𝓡 ρ)

-- the laws once more, over any reader, as a set for `simp`: list the reader itself beside it
module _ {ℓ} {R : Type ℓ} {O : Ops R} {𝓡 : CommRing O} {ρ : List R} (q : Reader 𝓡 ρ) where
  pub read_sum : (a b : Expr) → O.add (q.val a) (q.val b) ≡ q.val (add a b)
  read_sum = q.sum

  pub read_product : (a b : Expr) → O.mul (q.val a) (q.val b) ≡ q.val (mul a b)
  read_product = q.product

  pub read_minus : (a : Expr) → O.neg (q.val a) ≡ q.val (neg a)
  read_minus = q.minus

  pub read_difference : (a b : Expr) → minus O (q.val a) (q.val b) ≡ q.val (sub a b)
  read_difference a b = ap (λ x. O.add (q.val a) x) (q.minus b) ∙ q.sum a (neg b)

  pub read_nought : O.zero ≡ q.val zer
  read_nought = q.nought

  pub read_unit : O.one ≡ q.val one
  read_unit = q.unit

pub ruleset ring = (read_sum, read_product, read_difference, read_minus, read_nought, read_unit)
