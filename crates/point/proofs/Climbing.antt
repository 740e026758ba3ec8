-- The loop of `at_row` and of `from_row` at coordinate j of k: how it starts, steps and ends. Assumes nothing.
use mathlib.Core.Path.{◌≡◌, refl, sym, ap, ap₂, ◌∙◌}
use Prim.Native.Nat.{ℕ, ◌+◌, ◌-◌, ◌*◌, ◌^◌, ◌/◌, ◌%◌, ◌≤◌, ◌<◌}
use native.Mathlib.Nat.{div-one}
use native.Mathlib.Omega.{arith}
use mathlib.Core.List.{List, [], ◌∷◌}
use lib.ListN.{length}
use lib.Pow.{shr-shr}
use Rattle.field.specs.Field.{Ext, field, to_words, from_words, Holds}
use Rattle.field.specs.declared.Element.{Element}
use Rattle.field.proofs.Laws.{field_ring, holds, read_back, read_as}
use Rattle.table.specs.Table.{element_at, elements}
use Rattle.table.proofs.Laws.{elements_length}
use Rattle.multilinear.specs.Equality.{bit, for_bit, eq_at}
use Rattle.multilinear.specs.Inner.{tail_step, tail_by}
use Rattle.point.proofs.Rest.{rest, rest_none, rest_more, rest_all}

-- a value of coordinates at a row: 1 without any, and with one more in front by the bit of the row that goes with it
pub record Climbs (value_of : List Ext → ℕ → Ext) (step : ℕ → Ext → Ext → Ext) : Type 0 where
  pub none : (row : ℕ) → value_of [] row ≡ field.one
  pub more : (z : Ext) (zs : List Ext) (row : ℕ) → value_of (z ∷ zs) row ≡ step (bit (length zs) row) z (value_of zs row)

abbrev pub eq_step : ℕ → Ext → Ext → Ext
eq_step b z product = field.mul (for_bit field b z) product

pub eq_climbs : Climbs (eq_at field) eq_step
unfolding eq_at
eq_climbs = record { none = λ row. refl; more = λ z zs row. refl }

pub tail_climbs : Climbs (tail_by field) (tail_step field)
unfolding tail_by
tail_climbs = record { none = λ row. refl; more = λ z zs row. refl }

pub record Climbing (value_of : List Ext → ℕ → Ext) (ps : List ℕ) (k row left j : ℕ) (e : Element) : Type 0 where
  pub within : j ≤ k
  pub bits : left ≡ row / 2 ^ (k - j)
  pub value : Holds e (value_of (rest ps k j) row)

module _ {value_of : List Ext → ℕ → Ext} {step : ℕ → Ext → Ext → Ext} (s : Climbs value_of step) (ps : List ℕ) (k row : ℕ) where
  pub start : (e : Element) → Holds e field.one → Climbing value_of ps k row row k e
  start e h =
      let q : k - k ≡ 0 = omega arith in
      record { within = omega arith; bits = rw q (sym (div-one row)); value = rw (rest_none ps k, s.none row) h }

  -- one coordinate more, in front
  more : (j : ℕ) (z : Ext) → value_of (z ∷ rest ps k j) row ≡ step (bit (k - j) row) z (value_of (rest ps k j) row)
  more j z = s.more z (rest ps k j) row ∙ ap (λ n. step (bit n row) z (value_of (rest ps k j) row)) (elements_length ps j (k - j))

  pub turn : (left j : ℕ) (e : Element) → Climbing value_of ps k row left j e → 0 < j → (c : Element) {r : Element}
      → Holds c (element_at ps (j - 1)) → Holds r (step (left % 2) (from_words c) (from_words e)) → Climbing value_of ps k row (left / 2) (j - 1) r
  turn left j e d h c e₁ e₂ =
      let q : k - (j - 1) ≡ k - j + 1 = omega (arith, d.within) in
      record {
        within = omega (arith, d.within);
        bits = rw q (ap (λ x. x / 2) d.bits ∙ shr-shr row (k - j) 1);
        value = rw (rest_more ps k j d.within h, more j (element_at ps (j - 1)))
            (rw (read_as _ e₁, read_as _ d.value, d.bits) at e₂);
      }

  pub finish : (left j : ℕ) (e : Element) → Climbing value_of ps k row left j e → j ≡ 0 → Holds e (value_of (elements ps 0 k) row)
  finish left j e d z = rw (rest_all ps k j z) at d.value

-- two coordinates of a product at once, and the last one alone where the count is odd
module _ (ps : List ℕ) (k row : ℕ) where
  abbrev pub Product : (left j : ℕ) → Element → Type 0
  Product left j e = Climbing (eq_at field) ps k row left j e

  holds_words : (x : Ext) → Holds (to_words x) x
  holds_words x = holds x refl

  pub all : {product : Element} {left : ℕ} → Holds product field.one → left ≡ row → k ≡ 2 * (k / 2) → Product left (2 * (k / 2)) product
  all {product} {left} h q e = rw (← e, q) (start eq_climbs ps k row product h)

  pub but_last : {c f one product : Element} {left : ℕ} → Holds one field.one → 0 < k → k ≡ 2 * (k / 2) + 1 → Holds c (element_at ps (k - 1))
      → Holds f (for_bit field (row % 2) (from_words c)) → product ≡ f → left ≡ row / 2 → Product left (2 * (k / 2)) product
  but_last {c} {f} {one} {product} {left} o h e a b q s =
      let place : k - 1 ≡ 2 * (k / 2) = omega arith in
      let only : field.mul (for_bit field (row % 2) (from_words c)) (from_words one) ≡ for_bit field (row % 2) (from_words c) =
      ap (field.mul (for_bit field (row % 2) (from_words c))) (read_as _ o) ∙ field_ring.mul_one _ in
      rw (q, s, ← place) (turn eq_climbs ps k row row k one (start eq_climbs ps k row one o) h c a (rw only b))

  module _ {left i : ℕ} {e : Element} (d : Product left (2 * i) e) (b : 0 < i) where
    pub two : {c1 c0 low high both r : Element} → Holds c1 (element_at ps (2 * (i - 1) + 1)) → Holds c0 (element_at ps (2 * (i - 1)))
        → Holds low (for_bit field (left % 2) (from_words c1)) → Holds high (for_bit field (left / 2 % 2) (from_words c0))
        → Holds both (field.mul (from_words high) (from_words low)) → Holds r (field.mul (from_words both) (from_words e))
        → Product (left / 4) (2 * (i - 1)) r
    two {c1} {c0} {low} {high} {both} {r} h1 h0 f1 f0 m p =
        let second : 2 * (i - 1) + 1 ≡ 2 * i - 1 = omega arith in
        let first : 2 * i - 1 - 1 ≡ 2 * (i - 1) = omega arith in
        let bits : left / 2 / 2 ≡ left / 4 = omega arith in
        let one_more = turn eq_climbs ps k row left (2 * i) e d (omega arith) c1 (rw second at h1) (holds_words _) in
        let x = for_bit field (left / 2 % 2) (from_words c0) in
        let y = for_bit field (left % 2) (from_words c1) in
        let grouped : field.mul (from_words both) (from_words e) ≡ field.mul x (from_words (to_words (field.mul y (from_words e)))) =
        ap (λ v. field.mul v (from_words e)) (read_as _ m ∙ ap₂ field.mul (read_as _ f0) (read_as _ f1))
        ∙ field_ring.mul_assoc x y (from_words e) ∙ ap (field.mul x) (sym (read_back _)) in
        rw (first, bits) at (turn eq_climbs ps k row (left / 2) (2 * i - 1) _ one_more (omega arith) c0 (rw first h0) (rw grouped at p))
