-- What the functions take and give. No operation that users call cites it. Assumes nothing.
use Rattle.std.specs.Prelude.{◌≡◌, false, ℕ, ◌+◌, ◌*◌, ◌^◌, ◌≤◌, List, length, get_or}
use Rattle.algebra.specs.Words.{unreduced}
use Rattle.multilinear.specs.declared.Side.TheVariants.{Prefix}
use Rattle.multilinear.specs.declared.Weight.TheVariants.{Plain}
use Rattle.multilinear.specs.Folds.{fold_at}
use Rattle.field.specs.Field.{p, Ext, field, base, from_words, Reduced}
use Rattle.field.specs.declared.Element.{Element}
use Rattle.table.specs.Table.{entries, placed}
use Rattle.table.specs.Gained.{Gained}
use Rattle.table.specs.Refusals.{largest}
use Rattle.point.specs.declared.Point.{Point}
use Rattle.point.specs.Points.{coordinates}
use Rattle.kernel.specs.Kernel.{Groups}

-- words from word `from` on of rows of as many words as out has elements, the coordinates that are left, and a weight
pub record Scatters (from : ℕ) (rest : Point) (weight : Element) (words out : List ℕ) : Type 0 where
  pub weight_is : Reduced weight
  pub small : 2 ^ rest.count * entries out ≤ largest
  pub within : from + length words ≤ 2 ^ rest.count * entries out
  pub below : unreduced p words ≡ false
  pub room : length out ≡ 4 * entries out
  pub out_below : unreduced p out ≡ false

-- out gains, at each place, the words of its rows by weight·eq of the coordinates that are left
abbrev pub Scattered : ℕ → Point → Element → List ℕ → List ℕ → List ℕ → Type 0
Scattered from rest weight words out w =
    Gained 0 (entries out)
    (fold_at field Prefix Plain (entries out) (coordinates rest) (from_words weight) (λ t. base (placed from words t)))
    out w

-- what place i gains of whole rows
abbrev pub whole_rows : Point → Element → ℕ → List ℕ → ℕ → Ext
whole_rows rest weight inner words i =
    fold_at field Prefix Plain inner (coordinates rest) (from_words weight) (λ t. base (get_or words t 0)) i

-- a table of the weights of a block of thirty-two rows and the rows' words, all reduced, and an element of out for each word of a row
pub record Weighs (weights words out : List ℕ) : Type 0 where
  pub weights_there : length weights ≡ 128
  pub weights_below : unreduced p weights ≡ false
  pub rows_are : Groups 32 0 (entries out) out words
  pub out_below : unreduced p out ≡ false
