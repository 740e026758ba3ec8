-- Folds of a table at a point (document 01, "Split folds" and "Fold session"), over the operations of any ring. Assumes nothing.
use Rattle.std.specs.Prelude.{ℕ, ◌+◌, ◌*◌, ◌^◌, cond, List, eqb, length}
use Rattle.algebra.specs.Ring.{Ops}
use Rattle.algebra.specs.Sum.{sum_to}
use Rattle.multilinear.specs.declared.Side.{Side}
use Rattle.multilinear.specs.declared.Side.TheVariants.{Prefix, Suffix}
use Rattle.multilinear.specs.declared.Weight.{Weight}
use Rattle.multilinear.specs.declared.Weight.TheVariants.{Plain, Shifted, Next, Cyclic}
use Rattle.multilinear.specs.Equality.{eq_at}
use Rattle.multilinear.specs.Successors.{shifted_at, next_at, cyclic_at}
use Rattle.multilinear.specs.Values.{value_at, next_value_at}

-- prefix place i of row y is word y·inner + i; suffix place i of row y is word i·2^k + y, the rows being 2^k
abbrev pub word_of : Side → ℕ → ℕ → ℕ → ℕ → ℕ
word_of Prefix inner rows i y = y * inner + i
word_of Suffix inner rows i y = i * rows + y

module _ {ℓ} {R : Type ℓ} (O : Ops R) where
  open O use {mul as ◌⊗◌}

  infixl 70 ◌⊗◌
  -- plain weight is eq[y]
  abbrev pub weight_at : Weight → List R → ℕ → R
  weight_at Plain zs y = eq_at O zs y
  weight_at Shifted zs y = shifted_at O zs y
  weight_at Next zs y = next_at O zs y
  weight_at Cyclic zs y = cyclic_at O zs y

  -- place i of a fold with `inner` places: the sum over the 2^k rows y of scale·weight[y]·(word of place i of row y)
  unfoldable pub fold_at : Side → Weight → ℕ → List R → R → (ℕ → R) → ℕ → R
  fold_at side weight inner zs scale f i =
      sum_to O (2 ^ length zs) (λ y. scale ⊗ weight_at weight zs y ⊗ f (word_of side inner (2 ^ length zs) i y))

  -- `SplitEq::eval_base`, `eval_ext` take the scale, except: n = 0 gives the constant unscaled
  unfoldable pub scaled_value_at : List R → R → (ℕ → R) → R
  scaled_value_at zs scale f = cond (eqb (length zs) 0) (f 0) (scale ⊗ value_at O zs f)

  -- and so does `eval_next_base`, which at n = 1 gives entry 1 unscaled
  unfoldable pub scaled_next_value_at : List R → R → (ℕ → R) → R
  scaled_next_value_at zs scale f = cond (eqb (length zs) 0) (f 0) (cond (eqb (length zs) 1) (f 1) (scale ⊗ next_value_at O zs f))
