-- Values of a table at a point (document 01, "Values"; document 02, request (f)), over the operations of any ring. A table of n variables is a function of row
-- numbers below 2ⁿ. Assumes nothing.
use Rattle.std.specs.Prelude.{ℕ, ◌^◌, List, length}
use Rattle.algebra.specs.Ring.{Ops}
use Rattle.algebra.specs.Sum.{sum_to}
use Rattle.multilinear.specs.Equality.{eq_at}
use Rattle.multilinear.specs.Successors.{next_at, cyclic_at}

module _ {ℓ} {R : Type ℓ} (O : Ops R) where
  -- the sum of eq[y]·f[y], which is the table evaluated at the point
  unfoldable pub value_at : List R → (ℕ → R) → R
  value_at zs f = sum_to O (2 ^ length zs) (λ y. O.mul (eq_at O zs y) (f y))

  -- the sum of next[y]·f[y]
  unfoldable pub next_value_at : List R → (ℕ → R) → R
  next_value_at zs f = sum_to O (2 ^ length zs) (λ y. O.mul (next_at O zs y) (f y))

  -- the sum of cyclic[y]·f[y]
  unfoldable pub cyclic_value_at : List R → (ℕ → R) → R
  cyclic_value_at zs f = sum_to O (2 ^ length zs) (λ y. O.mul (cyclic_at O zs y) (f y))
