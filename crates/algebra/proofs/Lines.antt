-- The lines of the product: each is the product of its two powers, every pair has one, and the product is their sum. Assumes nothing.
use mathlib.Core.Path.{◌≡◌, refl, sym, ap, ap₂, ◌∙◌}
use mathlib.Core.Bool.{Bool, true, false, ◌&&◌}
use Prim.Native.Nat.{ℕ, zero, suc, ◌<◌}
use native.Mathlib.Omega.{arith}
use mathlib.Core.List.{List, [], ◌∷◌}
use lib.Dec.{T, eqb, eqb→eq}
use borrow.Author.Tests.{eqb-true, eqb-false}
use Rattle.algebra.specs.Ring.{Ops, CommRing}
use Rattle.algebra.specs.Quartic.{Quartic, quartic, constant}
use Rattle.algebra.specs.Lines.{Line, line, lines, count, Each, gather, X, power, coordinate, element, ProductOfPowers, sum_of, row, LineLaws}
use Rattle.algebra.proofs.Normal.{Expr, var, one, mul, expr_ops, agree}
use Rattle.algebra.proofs.Solve.{den}
use Rattle.algebra.proofs.Quartics.{A, B, QE, env, read, four}

abbrev agrees : Quartic Expr → Quartic Expr → Bool
agrees d e = agree d.x₀ e.x₀ && (agree d.x₁ e.x₁ && (agree d.x₂ e.x₂ && agree d.x₃ e.x₃))

-- the two sides of a line, as expressions in w
abbrev left : Line Expr → Quartic Expr
left l = QE.mul (power expr_ops (var 0) l.i) (power expr_ops (var 0) l.j)

abbrev right : Line Expr → Quartic Expr
right l = QE.mul (constant expr_ops (var 0) l.factor) (power expr_ops (var 0) l.power)

-- a line is ticked off where they agree
abbrev pub ticked : Line Expr → Bool
ticked l = agrees (left l) (right l)

abbrev all_ticked : List (Line Expr) → Bool
all_ticked [] = true
all_ticked (l ∷ ls) = ticked l && all_ticked ls

-- the rows, as expressions
abbrev row_expr : ℕ → Expr
row_expr =
    row expr_ops (var 0) (coordinate expr_ops (var 0) A) (coordinate expr_ops (var 0) B) (λ j. mul (coordinate expr_ops (var 0) B j) (var 0))

both : (s t : Bool) → T (s && t) → T s × T t
both true true h = (tt, tt)
both true false h = absurd h
both false t h = absurd h

-- a test that all numbers below n pass
abbrev pub below : ℕ → (ℕ → Bool) → Bool
below zero P = true
below (suc n) P = P n && below n P

pub every : (n : ℕ) (P : ℕ → Bool) → T (below n P) → (i : ℕ) → i < n → T (P i)
every zero P t i h = absurd (omega arith)
every (suc n) P t i h = let passed = both (P n) _ t in go passed.0 (every n P passed.1 i) (eqb i n) refl
  where
    go : T (P n) → (i < n → T (P i)) → (e : Bool) → eqb i n ≡ e → T (P i)
    go last before true q = rw (eqb-true i n q) last
    go last before false q = before (omega (arith, eqb-false i n q))

module _ {ℓ} {R : Type ℓ} {O : Ops R} (𝓡 : CommRing O) (w : R) where
  abbrev K : Ops (Quartic R)
  K = quartic O w

  -- an element of expressions in w alone, and a line of them, read
  abbrev value : Quartic Expr → Quartic R
  value e = read 𝓡 w K.zero K.zero K.zero e

  abbrev pub read_line : Line Expr → Line R
  read_line l = line l.i l.j (den 𝓡 l.factor (env 𝓡 w K.zero K.zero K.zero)) l.power

  agreed : (d e : Quartic Expr) → T (agrees d e) → value d ≡ value e
  agreed d e t =
      let b0 = both (agree d.x₀ e.x₀) _ t in
      let b1 = both (agree d.x₁ e.x₁) _ b0.1 in
      let b2 = both (agree d.x₂ e.x₂) _ b1.1 in
      four 𝓡 w K.zero K.zero K.zero d e b0.0 b1.0 b2.0 b2.1

  read_power : (n : ℕ) → value (power expr_ops (var 0) n) ≡ power O w n
  unfolding power quartic
  read_power zero = refl
  read_power (suc n) = ap (λ (q : Quartic R). K.mul q (X O w)) (read_power n)

  -- such a line is the product of its two powers
  pub product_of_powers : (l : Line Expr) → T (ticked l) → ProductOfPowers O w (read_line l)
  unfolding quartic constant
  product_of_powers l t =
      sym (ap₂ K.mul (read_power l.i) (read_power l.j))
      ∙ agreed (left l) (right l) t
      ∙ ap (K.mul (constant O w (read_line l).factor)) (read_power l.power)

  abbrev read_lines : List (Line Expr) → List (Line R)
  read_lines [] = []
  read_lines (l ∷ ls) = read_line l ∷ read_lines ls

  all_right : (ls : List (Line Expr)) → T (all_ticked ls) → Each (ProductOfPowers O w) (read_lines ls)
  unfolding Each
  all_right [] t = tt
  all_right (l ∷ ls) t = let b = both (ticked l) _ t in (product_of_powers l b.0, all_right ls b.1)

  each : Each (ProductOfPowers O w) (lines O.one w)
  unfolding lines power quartic constant
  each = all_right (lines one (var 0)) tt

  sum : (a b : Quartic R) → sum_of O w a b (lines O.one w) ≡ K.mul a b
  unfolding lines sum_of power quartic constant
  sum a b = four 𝓡 w a b a (sum_of expr_ops (var 0) A B (lines one (var 0))) (QE.mul A B) tt tt tt tt

  rows : (a b : ℕ → R) → K.mul (element O w a) (element O w b) ≡ element O w (row O w a b (λ j. O.mul (b j) w))
  unfolding lines gather quartic
  rows a b = four 𝓡 w (element O w a) (element O w b) (element O w a) (QE.mul A B) (element expr_ops (var 0) row_expr) tt tt tt tt

  fourth : power O w 4 ≡ constant O w w
  unfolding power quartic constant
  fourth = four 𝓡 w K.zero K.zero K.zero (power expr_ops (var 0) 4) (constant expr_ops (var 0) (var 0)) tt tt tt tt

  one_line : (i j : ℕ) → i < 4 → j < 4 → count i j (lines O.one w) ≡ 1
  unfolding lines count
  one_line i j hi hj =
      eqb→eq _ _ (every 4 (λ v. eqb (count i v (lines O.one w)) 1) (every 4 (λ u. below 4 (λ v. eqb (count u v (lines O.one w)) 1)) tt i hi) j hj)

  pub line_laws : LineLaws O w
  unfolding lines
  line_laws = record { fourth = fourth; each = each; once = one_line; sixteen = refl; sum = sum; rows = rows }
