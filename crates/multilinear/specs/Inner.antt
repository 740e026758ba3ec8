-- What the inner functions of folds give. No operation that users call cites it. Assumes nothing.
use Rattle.std.specs.Prelude.{ℕ, zero, suc, ◌+◌, ◌-◌, ◌^◌, cond, List, [], ◌∷◌, ltb, length, Option, Some, None}
use Rattle.algebra.specs.Ring.{Ops, minus}
use Rattle.algebra.specs.Sum.{sum_to}
use Rattle.multilinear.specs.declared.Side.{Side}
use Rattle.multilinear.specs.declared.Weight.{Weight}
use Rattle.multilinear.specs.declared.Weight.TheVariants.{Plain, Shifted, Next, Cyclic}
use Rattle.multilinear.specs.Equality.{bit, eq_at}
use Rattle.multilinear.specs.Successors.{last_row, shifted_at}
use Rattle.multilinear.specs.Folds.{word_of}

-- how many rows before it a row's eq stands
abbrev pub skip_of : Weight → ℕ
skip_of Plain = 0
skip_of Shifted = 1
skip_of Next = 1
skip_of Cyclic = 1

-- the row, of so many, that has scale·eq[N-1] beside that, if any has
abbrev pub own_row : Weight → ℕ → Option ℕ
own_row Plain rows = None
own_row Shifted rows = None
own_row Next rows = Some (rows - 1)
own_row Cyclic rows = Some 0

module _ {ℓ} {R : Type ℓ} (O : Ops R) where
  open O use {add as ◌⊕◌, mul as ◌⊗◌, zero as 𝟘, one as 𝟙}

  infixl 65 ◌⊕◌
  infixl 70 ◌⊗◌
  -- the words of the row `skip` after y go against eq[y]; a row after the last is 0
  unfoldable pub moved_at : Side → ℕ → ℕ → List R → R → (ℕ → R) → ℕ → R
  moved_at side skip inner zs scale f i =
      sum_to O (2 ^ length zs)
      (λ y. scale ⊗ eq_at O zs y ⊗ cond (ltb (y + skip) (2 ^ length zs)) (f (word_of side inner (2 ^ length zs) i (y + skip))) 𝟘)

  -- what a row gives, and 0 where there is none
  abbrev pub of_row : Option ℕ → (ℕ → R) → R
  of_row None g = 𝟘
  of_row (Some y) g = g y

  -- scale·eq[N-1] times the own row's word
  unfoldable pub own_at : Side → Weight → ℕ → List R → R → (ℕ → R) → ℕ → R
  own_at side weight inner zs scale f i =
      of_row (own_row weight (2 ^ length zs)) (λ y. scale ⊗ eq_at O zs (last_row O zs) ⊗ f (word_of side inner (2 ^ length zs) i y))

  -- the sum against the shifted weights, and eq[N-1] times the entry of one row
  unfoldable pub own_value_at : ℕ → List R → (ℕ → R) → R
  own_value_at own zs f =
      sum_to O (2 ^ length zs) (λ y. shifted_at O zs y ⊗ f y) ⊕ eq_at O zs (last_row O zs) ⊗ f own

  -- the sum of eq from a row on, with a coordinate more in front: by the bit of the row that goes with it
  abbrev pub tail_step : ℕ → R → R → R
  tail_step zero z sum = sum ⊕ z ⊗ minus O 𝟙 sum
  tail_step (suc b) z sum = z ⊗ sum

  unfoldable pub tail_by : List R → ℕ → R
  tail_by [] m = 𝟙
  tail_by (z ∷ zs) m = tail_step (bit (length zs) m) z (tail_by zs m)
