-- The quartic extension of a commutative ring is one. Assumes nothing.
use mathlib.Core.Path.{◌≡◌}
use mathlib.Core.List.{List, [], ◌∷◌}
use lib.Dec.{T}
use Rattle.algebra.specs.Ring.{Ops, CommRing}
use Rattle.algebra.specs.Quartic.{Quartic, quartic, constant}
use Rattle.algebra.proofs.Normal.{Expr, var, zer, mul, expr_ops, agree}
use Rattle.algebra.proofs.Solve.{solve, den}

-- two elements are equal if their coordinates are
pub quartic_path {ℓ} : {A : Type ℓ} {a b : Quartic A} → a.x₀ ≡ b.x₀ → a.x₁ ≡ b.x₁ → a.x₂ ≡ b.x₂ → a.x₃ ≡ b.x₃ → a ≡ b
quartic_path p q r s = λ i. record { x₀ = p i; x₁ = q i; x₂ = r i; x₃ = s i }

-- the general elements, as expressions
abbrev pub A : Quartic Expr
A = record { x₀ = var 1; x₁ = var 2; x₂ = var 3; x₃ = var 4 }

abbrev pub B : Quartic Expr
B = record { x₀ = var 5; x₁ = var 6; x₂ = var 7; x₃ = var 8 }

abbrev C : Quartic Expr
C = record { x₀ = var 9; x₁ = var 10; x₂ = var 11; x₃ = var 12 }

abbrev pub QE : Ops (Quartic Expr)
QE = quartic expr_ops (var 0)

module _ {ℓ} {R : Type ℓ} {O : Ops R} (𝓡 : CommRing O) (w : R) where
  abbrev pub env : Quartic R → Quartic R → Quartic R → List R
  env a b c = w ∷ a.x₀ ∷ a.x₁ ∷ a.x₂ ∷ a.x₃ ∷ b.x₀ ∷ b.x₁ ∷ b.x₂ ∷ b.x₃ ∷ c.x₀ ∷ c.x₁ ∷ c.x₂ ∷ c.x₃ ∷ []

  -- an element of expressions, read
  abbrev pub read : Quartic R → Quartic R → Quartic R → Quartic Expr → Quartic R
  read a b c e = record { x₀ = den 𝓡 e.x₀ (env a b c); x₁ = den 𝓡 e.x₁ (env a b c); x₂ = den 𝓡 e.x₂ (env a b c); x₃ = den 𝓡 e.x₃ (env a b c) }

  -- four equations at once
  pub four : (a b c : Quartic R) (d e : Quartic Expr) → T (agree d.x₀ e.x₀) → T (agree d.x₁ e.x₁) → T (agree d.x₂ e.x₂)
      → T (agree d.x₃ e.x₃) → read a b c d ≡ read a b c e
  four a b c d e p q r s = quartic_path (solve 𝓡 (env a b c) d.x₀ e.x₀ p) (solve 𝓡 (env a b c) d.x₁ e.x₁ q) (solve 𝓡 (env a b c) d.x₂ e.x₂ r) (solve 𝓡 (env a b c) d.x₃ e.x₃ s)

  pub quartic_ring : CommRing (quartic O w)
  unfolding quartic
  quartic_ring = record {
    add_assoc = λ a b c. four a b c (QE.add (QE.add A B) C) (QE.add A (QE.add B C)) tt tt tt tt;
    add_comm = λ a b. four a b a (QE.add A B) (QE.add B A) tt tt tt tt;
    add_zero = λ a. four a a a (QE.add A QE.zero) A tt tt tt tt;
    add_neg = λ a. four a a a (QE.add A (QE.neg A)) QE.zero tt tt tt tt;
    mul_assoc = λ a b c. four a b c (QE.mul (QE.mul A B) C) (QE.mul A (QE.mul B C)) tt tt tt tt;
    mul_comm = λ a b. four a b a (QE.mul A B) (QE.mul B A) tt tt tt tt;
    mul_one = λ a. four a a a (QE.mul A QE.one) A tt tt tt tt;
    mul_add = λ a b c. four a b c (QE.mul A (QE.add B C)) (QE.add (QE.mul A B) (QE.mul A C)) tt tt tt tt;
  }

  -- the product with an element of the ring below is coordinate by coordinate
  pub mul_constant : (a : Quartic R) (c : R)
      → (quartic O w).mul a (constant O w c) ≡ record { x₀ = O.mul a.x₀ c; x₁ = O.mul a.x₁ c; x₂ = O.mul a.x₂ c; x₃ = O.mul a.x₃ c }
  unfolding quartic constant
  mul_constant a c =
      four a (constant O w c) a
      (QE.mul A (record { x₀ = var 5; x₁ = zer; x₂ = zer; x₃ = zer }))
      (record { x₀ = mul (var 1) (var 5); x₁ = mul (var 2) (var 5); x₂ = mul (var 3) (var 5); x₃ = mul (var 4) (var 5) })
      tt tt tt tt

  -- products of elements of the ring below
  pub constant_mul : (a b : R) → (quartic O w).mul (constant O w a) (constant O w b) ≡ constant O w (O.mul a b)
  unfolding quartic constant
  constant_mul a b =
      four (constant O w a) (constant O w b) (constant O w a)
      (QE.mul (record { x₀ = var 1; x₁ = zer; x₂ = zer; x₃ = zer }) (record { x₀ = var 5; x₁ = zer; x₂ = zer; x₃ = zer }))
      (record { x₀ = mul (var 1) (var 5); x₁ = zer; x₂ = zer; x₃ = zer })
      tt tt tt tt
