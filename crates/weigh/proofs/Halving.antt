-- A table's value by halves: from those of its halves, at the first coordinate, down to one entry. Assumes nothing.
use mathlib.Core.Path.{◌≡◌, refl, sym, ap, ap₂, ◌∙◌}
use Prim.Native.Nat.{ℕ, suc, ◌+◌, ◌-◌, ◌^◌, ◌<◌}
use native.Mathlib.Nat.{pos_of_ne-zero, two-pow-succ, add-zero}
use native.Mathlib.Numerals.{add-one}
use native.Mathlib.Omega.{arith}
use mathlib.Core.List.{List, ◌∷◌}
use lib.ListN.{length}
use Rattle.multilinear.specs.Values.{value_at}
use Rattle.multilinear.specs.Beside.{line}
use Rattle.multilinear.proofs.Values.{value_empty, value_ext, value_step}
use Rattle.field.specs.Field.{Ext, field, from_words, Holds}
use Rattle.field.specs.declared.Element.{Element}
use Rattle.field.proofs.Laws.{field_ring, read_as}
use Rattle.table.specs.Table.{element_at, elements}
use Rattle.table.proofs.Laws.{elements_length}
use Rattle.table.proofs.Parts.{elements_drop}
use Rattle.point.specs.declared.Point.{Point}
use Rattle.point.specs.Points.{coordinates}
use Rattle.weigh.specs.Weigh.{Rest}

-- the variables are one more than those of a half
pub one_more : {n : ℕ} → (n ≡ 0 → ⊥) → n ≡ suc (n - 1)
one_more {n} left = let z : 0 < n = pos_of_ne-zero left in omega arith

-- the rows are twice those of a half
pub twice_half : {n m : ℕ} → n ≡ suc m → 2 ^ n ≡ 2 ^ m + 2 ^ m
twice_half {n} {m} e = ap (λ k. 2 ^ k) e ∙ two-pow-succ m

module _ (point : List ℕ) (i : ℕ) where
  -- no coordinate is left: one entry
  pub one_entry : {n : ℕ} (f : ℕ → Ext) → n ≡ 0 → {x : Element} → Holds x (f 0) → Holds x (value_at field (elements point i n) f)
  unfolding elements
  one_entry f e d = rw (e, value_empty field_ring f) d

  -- the values of the halves, of m variables each, on the line at the first coordinate
  module _ {n m : ℕ} (e : n ≡ suc m) (f low_half high_half : ℕ → Ext) (e0 : (y : ℕ) → y < 2 ^ m → low_half y ≡ f y)
      (e1 : (y : ℕ) → y < 2 ^ m → high_half y ≡ f (2 ^ m + y)) where
    abbrev zs : List Ext
    zs = elements point (i + 1) m

    first_apart : elements point i n ≡ element_at point i ∷ zs
    unfolding elements
    first_apart = ap (elements point i) e ∙ ap (λ a. element_at point i ∷ elements point a m) (sym (add-one i))

    below : (y : ℕ) → y < 2 ^ length zs → y < 2 ^ m
    below y b = rw (elements_length point (i + 1) m) at b

    at_first : value_at field (elements point i n) f
        ≡ line field (value_at field zs low_half) (value_at field zs high_half) (element_at point i)
    at_first =
        ap (λ us. value_at field us f) first_apart
        ∙ value_step field_ring (element_at point i) zs f
        ∙ ap₂ (λ a b. line field a b (element_at point i))
        (value_ext field_ring zs _ _ (λ y b. sym (e0 y (below y b))))
        (value_ext field_ring zs _ _ (λ y b. ap (λ k. f (2 ^ k + y)) (elements_length point (i + 1) m) ∙ sym (e1 y (below y b))))

    pub joined : {at0 at1 x : Element} → Holds at0 (value_at field zs low_half) → Holds at1 (value_at field zs high_half)
        → Holds x (line field (from_words at0) (from_words at1) (element_at point i)) → Holds x (value_at field (elements point i n) f)
    joined d0 d1 d = rw at_first (rw (read_as _ d0, read_as _ d1) at d)

-- what is left of a point's coordinates after the first k
pub rest_coordinates : {k : ℕ} (point : Point) {rest : Point} → Rest k point rest → coordinates rest ≡ elements point.words.now k (point.count - k)
rest_coordinates {k} point r = rw (r.words, r.count, elements_drop k 0 (point.count - k) point.words.now, add-zero) refl

-- the values of the halves at a point's other coordinates, on the line at the first
module _ (point : Point) {rest : Point} (r : Rest 1 point rest) (left : point.count ≡ 0 → ⊥) (f low_half high_half : ℕ → Ext)
    (e0 : (y : ℕ) → y < 2 ^ (point.count - 1) → low_half y ≡ f y)
    (e1 : (y : ℕ) → y < 2 ^ (point.count - 1) → high_half y ≡ f (2 ^ (point.count - 1) + y)) where
  pub rest_joined : {at0 at1 x : Element} → Holds at0 (value_at field (coordinates rest) low_half)
      → Holds at1 (value_at field (coordinates rest) high_half)
      → Holds x (line field (from_words at0) (from_words at1) (element_at point.words.now 0)) → Holds x (value_at field (coordinates point) f)
  rest_joined d0 d1 =
      joined point.words.now 0 (one_more left) f low_half high_half e0 e1 (rw (rest_coordinates point r) at d0) (rw (rest_coordinates point r) at d1)
