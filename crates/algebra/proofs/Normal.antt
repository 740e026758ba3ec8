-- Expressions over a commutative ring and their normal forms: an expression is multiplied out into a sum of monomials, and two
-- expressions agree if what is left of their difference has every coefficient zero. A coefficient is a pair of numbers, what is added
-- and what is taken away. Assumes nothing.
use mathlib.Core.List.{List, [], ◌∷◌}
use mathlib.Core.Bool.{Bool, true, ◌&&◌}
use Prim.Native.Nat.{ℕ, ◌+◌, ◌*◌, compare, Ordering}
use lib.Dec.{eqb}
use Rattle.algebra.specs.Ring.{Ops}

pub data Expr : Type 0 where
  var : ℕ → Expr
  lit : ℕ → Expr
  zer one : Expr
  add mul : Expr → Expr → Expr
  neg : Expr → Expr

-- expressions have the operations of a ring: a formula over `Ops` can be read in them
abbrev pub expr_ops : Ops Expr
expr_ops = record { add = add; mul = mul; neg = neg; zero = zer; one = one }

abbrev pub sub : Expr → Expr → Expr
sub a b = add a (neg b)

-- A monomial is the places of its factors in order; a sum has its monomials in order.
pub data Sum : Type 0 where
  none : Sum
  more : ℕ → ℕ → List ℕ → Sum → Sum

abbrev pub ins : ℕ → List ℕ → List ℕ
ins i [] = i ∷ []
ins i (j ∷ m) = elim (compare i j) [ Ordering.lt ↦ i ∷ j ∷ m | Ordering.eq ↦ i ∷ j ∷ m | Ordering.gt ↦ j ∷ ins i m ]

abbrev pub join : List ℕ → List ℕ → List ℕ
join [] n = n
join (i ∷ m) n = ins i (join m n)

-- the order of monomials: by the first factor that differs, the end of the list counting as the last of all places. So a product keeps it:
-- `scale` of a sum in order is in order. (Nothing below is proved of order: `solve` is right in any case, and the order makes like terms meet.)
abbrev pub cmp : List ℕ → List ℕ → Ordering
cmp [] [] = Ordering.eq
cmp [] (j ∷ n) = Ordering.gt
cmp (i ∷ m) [] = Ordering.lt
cmp (i ∷ m) (j ∷ n) = elim (compare i j) [ Ordering.lt ↦ Ordering.lt | Ordering.eq ↦ cmp m n | Ordering.gt ↦ Ordering.gt ]

-- the sum `p - n` times `m`, and `s` after it, merged with another, where `f` merges `s` with one
abbrev pub into : ℕ → ℕ → List ℕ → Sum → (Sum → Sum) → Sum → Sum
into p n m s f none = more p n m s
into p n m s f (more q r k t) = elim (cmp m k) [ Ordering.lt ↦ more p n m (f (more q r k t)) | Ordering.eq ↦ more (p + q) (n + r) k (f t) | Ordering.gt ↦ more q r k (into p n m s f t) ]

abbrev pub both : Sum → Sum → Sum
both none t = t
both (more p n m s) t = into p n m s (λ x. both s x) t

abbrev pub scale : ℕ → ℕ → List ℕ → Sum → Sum
scale p n m none = none
scale p n m (more q r k s) = more (p * q + n * r) (p * r + n * q) (join m k) (scale p n m s)

abbrev pub times : Sum → Sum → Sum
times none t = none
times (more p n m s) t = both (scale p n m t) (times s t)

abbrev pub flip : Sum → Sum
flip none = none
flip (more p n m s) = more n p m (flip s)

abbrev pub norm : Expr → Sum
norm (var i) = more 1 0 (i ∷ []) none
norm (lit k) = more k 0 [] none
norm zer = none
norm one = more 1 0 [] none
norm (add a b) = both (norm a) (norm b)
norm (mul a b) = times (norm a) (norm b)
norm (neg a) = flip (norm a)

-- every coefficient is zero
abbrev pub null : Sum → Bool
null none = true
null (more p n m s) = eqb p n && null s

abbrev pub agree : Expr → Expr → Bool
agree a b = null (both (flip (norm b)) (norm a))
