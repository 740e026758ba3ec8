-- The loop of `selection`, from the last coordinate back to coordinate 0, while the power is squared. Assumes nothing.
use mathlib.Core.Path.{◌≡◌, sym}
use Prim.Native.Nat.{ℕ, suc, ◌-◌, ◌*◌, ◌^◌, ◌%◌, ◌≤◌, ◌<◌}
use native.Mathlib.Nat.{mod-lt}
use native.Mathlib.Omega.{arith}
use mathlib.Core.List.{List, [], ◌∷◌}
use Rattle.algebra.specs.Ring.{minus}
use Rattle.algebra.proofs.Reading.{reading, ring}
use Rattle.multilinear.specs.Beside.{power, eval_select}
use Rattle.multilinear.proofs.Select.{power_one, power_square, select_empty, select_step}
use Rattle.field.specs.Field.{p, p_pos, Ext, field, base, from_words, Holds}
use Rattle.field.specs.declared.Element.{Element}
use Rattle.field.proofs.Laws.{field_ring, base_mul, read_as}
use Rattle.table.specs.Table.{element_at, elements}
use Rattle.table.proofs.Laws.{elements_length}
use Rattle.point.proofs.Rest.{rest, rest_none, rest_more, rest_all}

-- z·(w - 1) + 1
abbrev pub select_factor : Ext → Ext → Ext
select_factor z w = field.add (field.mul z (minus field w field.one)) field.one

pub select_factor_law : (z w : Ext) → field.add (minus field (field.mul z w) z) field.one ≡ select_factor z w
select_factor_law z w = reading field_ring (z ∷ w ∷ []) λ q. simp (select_factor, ring, q, q.at 0, q.at 1) (q.close tt)

-- at coordinate j of k: the selection of the coordinates from j on, and the power for the one before j
pub record Selecting (var : ℕ) (ps : List ℕ) (k j : ℕ) (product : Element) (w : ℕ) : Type 0 where
  pub within : j ≤ k
  pub reduced : w < p
  pub power_is : base w ≡ power field (base var) (2 ^ (k - j))
  pub product_is : Holds product (eval_select field (base var) (rest ps k j))

module _ (var : ℕ) (ps : List ℕ) (k : ℕ) where
  pub start : {product : Element} → var < p → Holds product field.one → Selecting var ps k k product var
  start b a =
      let q : k - k ≡ 0 = omega arith in
      record {
        within = omega arith;
        reduced = b;
        power_is = rw q (sym (power_one field_ring (base var)));
        product_is = rw (rest_none ps k, select_empty field_ring (base var)) a;
      }

  module _ (j : ℕ) {product : Element} {w : ℕ} (d : Selecting var ps k j product w) where
    pub turn : 0 < j → {c f new : Element} {w₁ : ℕ} → Holds c (element_at ps (j - 1)) → Holds f (select_factor (from_words c) (base w))
        → Holds new (field.mul (from_words f) (from_words product)) → w₁ ≡ w * w % p → Selecting var ps k (j - 1) new w₁
    turn h e₁ e₂ e₃ e₄ =
        let q : k - (j - 1) ≡ suc (k - j) = omega arith in
        record {
          within = omega arith;
          reduced = rw e₄ (mod-lt (w * w) p_pos);
          power_is = rw (e₄, q, base_mul w w, d.power_is) (sym (power_square field_ring (base var) (k - j)));
          product_is = rw (
            rest_more ps k j d.within h,
            select_step field_ring (base var) (element_at ps (j - 1)) (rest ps k j),
            elements_length ps j (k - j),
            ← d.power_is,
          ) (rw (read_as _ e₂, read_as _ e₁, read_as _ d.product_is) at e₃);
        }

    pub finish : j ≡ 0 → Holds product (eval_select field (base var) (elements ps 0 k))
    finish z = rw (rest_all ps k j z) at d.product_is
