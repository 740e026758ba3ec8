-- What the inner functions give. No operation that users call cites it. Assumes nothing.
use Rattle.std.specs.Prelude.{◌≡◌, false, ℕ, ◌*◌, ◌≤◌, ◌<◌, List, length}
use Rattle.algebra.specs.Words.{unreduced}
use Rattle.multilinear.specs.Tails.{tail_at}
use Rattle.field.specs.Field.{p, Ext, field, from_words, Reduced}
use Rattle.field.specs.declared.Element.{Element}
use Rattle.plan.specs.declared.Plan.{Plan}
use Rattle.plan.specs.Plan.{coordinates_of}

-- the sum of the weights of the rows from some row on
abbrev pub tail_of : Plan → ℕ → Ext
tail_of plan row = tail_at field plan.weight (coordinates_of plan) row

-- and scale times it
abbrev pub scaled_tail : Plan → ℕ → Ext
scaled_tail plan row = field.mul (from_words plan.scale) (tail_of plan row)

-- places to add to, with a last word for each, all reduced
pub record Spreads (from to : ℕ) (last : List ℕ) (weight : Element) (out : List ℕ) : Type 0 where
  pub after : from ≤ to
  pub last_room : to ≤ length last
  pub last_below : unreduced p last ≡ false
  pub weight_is : Reduced weight
  pub room : 4 * to ≤ length out
  pub out_below : unreduced p out ≡ false

-- rows of some words, and room for a word of each place
pub record Rows (inner : ℕ) (last : List ℕ) : Type 0 where
  pub some : 0 < inner
  pub room : inner ≤ length last
