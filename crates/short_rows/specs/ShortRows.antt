-- What the inner functions take and give. No operation that users call cites it. Assumes nothing.
use Rattle.std.specs.Prelude.{◌≡◌, false, ℕ, ◌+◌, ◌*◌, ◌^◌, ◌≤◌, ◌<◌, List, length}
use Rattle.algebra.specs.Ring.{minus}
use Rattle.algebra.specs.Words.{unreduced}
use Rattle.field.specs.Field.{p, Ext, field, Reduced}
use Rattle.field.specs.declared.Element.{Element}
use Rattle.table.specs.Table.{entries}
use Rattle.point.specs.declared.Point.{Point}

-- there is room for so many sums
abbrev pub most_sums : ℕ
most_sums = 1024

-- so many of `count` coordinates are put off: none, or there is room for a row of sums for each vertex of them
pub record PutOff (inner count late : ℕ) : Type 0 where
  pub few : late ≤ count
  pub fits : 0 < late → 2 ^ late * inner ≤ most_sums

-- a row of sums for each vertex of the last coordinates, and out of one row, all reduced
pub record Rows (last : Point) (sums out : List ℕ) : Type 0 where
  pub there : length sums ≡ 4 * (2 ^ last.count * entries out)
  pub fits : length sums ≤ 4 * most_sums
  pub below : unreduced p sums ≡ false
  pub room : length out ≡ 4 * entries out
  pub out_below : unreduced p out ≡ false

-- two halves of elements, all reduced, and a coordinate
pub record Halves (half : ℕ) (z : Element) (sums : List ℕ) : Type 0 where
  pub coordinate : Reduced z
  pub there : 8 * half ≤ length sums
  pub below : unreduced p sums ≡ false

-- what element i of the first half gains: the difference of the halves, by the coordinate
abbrev pub joined : (ℕ → Ext) → ℕ → Ext → ℕ → Ext
joined f half z i = field.mul (minus field (f (half + i)) (f i)) z

-- at the front as many elements as out has, all reduced
pub record Front (sums out : List ℕ) : Type 0 where
  pub there : length out ≤ length sums
  pub below : unreduced p sums ≡ false
  pub out_below : unreduced p out ≡ false
