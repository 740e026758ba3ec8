-- What the inner functions take and give. No operation that users call cites it. Assumes nothing.
use Rattle.std.specs.Prelude.{◌≡◌, false, ℕ, ◌+◌, ◌-◌, ◌*◌, ◌^◌, ◌≤◌, ◌<◌, List, length}
use Rattle.algebra.specs.Words.{unreduced}
use Rattle.algebra.specs.Ring.{minus}
use Rattle.field.specs.Field.{p, Ext, field, to_words, Reduced}
use Rattle.field.specs.declared.Element.{Element}
use Rattle.table.specs.Table.{get_at, element_at, entries}
use Rattle.point.specs.declared.Point.{Point}
use Rattle.point.specs.Point.{eq_by}
use Rattle.point.specs.Points.{coordinates}
use Rattle.point.specs.declared.equality.BitOrder.{BitOrder}
use Rattle.point.specs.declared.equality.BitOrder.TheVariants.{Msb, Lsb}

-- the coordinate that doubles the table at step i of k
abbrev pub entering : BitOrder → ℕ → ℕ → ℕ
entering Msb k i = k - 1 - i
entering Lsb k i = i

-- the first i of n elements ws doubled by z into w: the low half loses its product with z, and the high half is that product
pub record Doubled (n i : ℕ) (z : Ext) (ws w : List ℕ) : Type 0 where
  pub within : i ≤ n
  pub len : length w ≡ length ws
  pub low : (y : ℕ) → y < i → get_at w y ≡ to_words (minus field (element_at ws y) (field.mul (element_at ws y) z))
  pub mid : (y : ℕ) → i ≤ y → y < n → get_at w y ≡ get_at ws y
  pub high : (y : ℕ) → y < i → get_at w (n + y) ≡ to_words (field.mul (element_at ws y) z)

pub record Doubles (n : ℕ) (c : Element) (ws : List ℕ) : Type 0 where
  pub room : 8 * n ≤ length ws
  pub below : (y : ℕ) → y < n → Reduced (get_at ws y)
  pub by : Reduced c

-- the low bits of a row of a table that is made of two
abbrev pub low_bits : ℕ
low_bits = 8

-- a point's coordinates in two: those of a row's high bits, and those of its low ones. eq of a row is the product of theirs
pub record Halved (order : BitOrder) (point high low : Point) : Type 0 where
  pub low_count : low.count ≡ low_bits
  pub high_count : high.count ≡ point.count - low_bits
  pub product : (h l : ℕ) → h < 2 ^ high.count → l < 2 ^ low_bits
      → eq_by order (coordinates point) (h * 2 ^ low_bits + l)
      ≡ field.mul (eq_by order (coordinates high) h) (eq_by order (coordinates low) l)

-- n reduced elements at the front of out, and in all of it a block for each of them
pub record Spans (n : ℕ) (block out : List ℕ) : Type 0 where
  pub some : 0 < entries block
  pub block_below : unreduced p block ≡ false
  pub room : length out ≡ 4 * (n * entries block)
  pub below : (h : ℕ) → h < n → Reduced (get_at out h)

-- from element j on each of the n elements of ws is a block; the elements before are as they were
pub record Spanned (j n : ℕ) (block ws w : List ℕ) : Type 0 where
  pub within : j ≤ n
  pub len : length w ≡ length ws
  pub is : (h l : ℕ) → j ≤ h → h < n → l < entries block
      → get_at w (h * entries block + l) ≡ to_words (field.mul (element_at ws h) (element_at block l))
  pub kept : (h : ℕ) → h < j → get_at w h ≡ get_at ws h
