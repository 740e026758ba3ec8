-- What the functions of `small` lend their calls, and what they give. Assumes nothing.
use mathlib.Core.Path.{◌≡◌, refl, ap₂, ◌∙◌}
use Prim.Native.Nat.{ℕ, ◌+◌, ◌-◌, ◌*◌, ◌^◌, ◌≤◌, ◌<◌}
use native.Mathlib.Nat.{mul_comm, add-mul, one-mul, mul-le-mul_right}
use native.Mathlib.Omega.{arith}
use mathlib.Core.List.{List}
use lib.ListN.{length, take}
use Rattle.algebra.specs.Ring.{minus}
use Rattle.multilinear.specs.Values.{value_at}
use Rattle.multilinear.specs.Beside.{line}
use Rattle.field.specs.Field.{factor, Ext, field, base, from_words, Holds}
use Rattle.field.specs.declared.Element.{Element}
use Rattle.field.proofs.Laws.{holds, read_as}
use Rattle.table.specs.Table.{get_at, element_at}
use Rattle.table.proofs.Parts.{after, rest, rest_length, rest_get, get_drop}
use Rattle.table.proofs.Writing.{Written}
use Rattle.point.specs.declared.Point.{Point}
use Rattle.point.specs.Points.{coordinates}
use Rattle.weigh.specs.Weigh.{Raised, Rest}
use Rattle.weigh.specs.Entries.{WholeTable, Entry, Parted, table_value}
use Rattle.weigh.proofs.Halving.{one_more, one_entry, joined, rest_joined}
use Rattle.weigh.proofs.TableHalves.{low_entry, high_entry}

-- a coordinate times X⁴
abbrev pub raised_at : List ℕ → ℕ → Ext
raised_at point j = field.mul (element_at point j) (base factor)

-- all are written
pub all_raised : {n : ℕ} {point out ws : List ℕ} → 4 * n ≤ length out → Written (raised_at point) n out ws → Raised n point ws
all_raised h w = record { room = omega (arith, w.len); holds = λ j b. holds _ (w.holds j b) }

module _ (point : Point) {raised : List ℕ} (r : Raised point.count point.words.now raised) where
  -- what is left of them
  pub rest_raised : {rest_is : Point} → Rest 1 point rest_is → 0 < point.count → Raised rest_is.count rest_is.words.now (rest 1 raised)
  rest_raised is some =
      rw (is.words, is.count)
      (record {
        room = omega (arith, rest_length 1 raised, r.room);
        holds = λ j b.
            rw (rest_get 1 raised j, get_drop 1 j point.words.now) (r.holds (1 + j) (omega arith));
      })

  -- the first coordinate and what was read of it
  pub factor_raised : 0 < point.count → {c t : Element} → Holds c (element_at point.words.now 0) → t ≡ get_at raised 0
      → Holds t (field.mul (from_words c) (base factor))
  factor_raised some d q = rw (q, read_as _ d) (r.holds 0 some)

pub on_line : (a b : Element) {r d x : Element} {z : Ext} → Holds r z → Holds d (minus field (from_words b) (from_words a))
    → Holds x (field.add (from_words a) (field.mul (from_words d) (from_words r))) → Holds x (line field (from_words a) (from_words b) z)
on_line a b d-r d-d d = rw (read_as _ d-r, read_as _ d-d) at d

-- the value of a table, from those of its halves
module _ {width : ℕ} {entry : List ℕ → ℕ → Ext} (parted : Parted width entry) (point : Point) {rest_is : Point} (is : Rest 1 point rest_is)
    (left : point.count ≡ 0 → ⊥) {half : ℕ} (h : half ≡ 2 ^ (point.count - 1)) where
  pub table_joined : (ws : List ℕ) {at0 at1 x : Element}
      → Holds at0 (table_value entry rest_is (take (width * half) ws))
      → Holds at1 (table_value entry rest_is (after (width * half) ws))
      → Holds x (line field (from_words at0) (from_words at1) (element_at point.words.now 0))
      → Holds x (table_value entry point ws)
  table_joined ws =
      let e = one_more left in
      rest_joined point is left (entry ws) _ _ (low_entry e h parted ws) (λ y b. high_entry e h parted ws y)

-- the entries of a table, and those of a pair
module _ {n width : ℕ} {ws : List ℕ} (w : WholeTable width n ws) where
  pub entry_there : (y : ℕ) → y < 2 ^ n → Entry width y ws
  entry_there y l =
      let q : width * (y + 1) ≡ width * y + width = mul_comm width (y + 1) ∙ add-mul y 1 width ∙ ap₂ ◌+◌ (mul_comm y width) (one-mul width) in
      let m : (y + 1) * width ≤ 2 ^ n * width = mul-le-mul_right width (omega arith) in
      record {
        there = omega (arith, w.count, q, m, mul_comm width (y + 1), mul_comm width (2 ^ n));
        below = w.below;
      }

-- the value of a pair, of which no half has a coordinate left
pub pair_joined : (point : Point) → point.count ≡ 1 → (f : ℕ → Ext) {at0 at1 x : Element} → Holds at0 (f 0) → Holds at1 (f 1)
    → Holds x (line field (from_words at0) (from_words at1) (element_at point.words.now 0)) → Holds x (value_at field (coordinates point) f)
pair_joined point e f d0 d1 =
    joined point.words.now 0 e f f (λ y. f (1 + y)) (λ y b. refl) (λ y b. refl) (one_entry point.words.now 1 f refl d0)
    (one_entry point.words.now 1 (λ y. f (1 + y)) refl d1)
