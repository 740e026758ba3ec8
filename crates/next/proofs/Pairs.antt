-- The loops of `agreements` and `next_parts`, from the last pair of coordinates back to coordinate 0. Assumes nothing.
use mathlib.Core.Path.{◌≡◌}
use Prim.Native.Nat.{ℕ, ◌-◌, ◌≤◌, ◌<◌}
use native.Mathlib.Omega.{arith}
use mathlib.Core.List.{List, [], ◌∷◌}
use Rattle.algebra.specs.Ring.{minus}
use Rattle.algebra.proofs.Reading.{reading, ring}
use Rattle.multilinear.specs.Equality.{agreement}
use Rattle.multilinear.specs.Successors.{NextParts, eval_next, done_step, carry_step}
use Rattle.multilinear.specs.Beside.{eval_eq}
use Rattle.field.specs.Field.{Ext, field, from_words, Holds}
use Rattle.field.specs.declared.Element.{Element}
use Rattle.field.proofs.Laws.{field_ring, read_as, size}
use Rattle.table.specs.Table.{element_at, elements}
use Rattle.next.specs.declared.parts.Parts.{Parts}
use Rattle.next.specs.Whole.{FourWords}
use Rattle.next.specs.Inner.{HoldParts}
use Rattle.point.proofs.Rest.{rest, rest_none, rest_more, rest_all}

-- what is settled and what is carried, by the product of a pair
pub settled_by : (s t carry : Ext) → field.mul (minus field t (field.mul s t)) carry ≡ field.mul (field.mul (minus field field.one s) t) carry
settled_by s t carry =
    reading field_ring (s ∷ t ∷ carry ∷ []) λ q. simp (ring, q, q.at 0, q.at 1, q.at 2) (q.close tt)

pub carried_by : (s t carry : Ext) → field.mul (minus field s (field.mul s t)) carry ≡ carry_step field s t carry
carried_by s t carry =
    reading field_ring (s ∷ t ∷ carry ∷ []) λ q. simp (carry_step, ring, q, q.at 0, q.at 1, q.at 2) (q.close tt)

-- at coordinate j of k: what the pairs from j on give
module _ (ps rs : List ℕ) (k j : ℕ) where
  pub record Agreed (product : Element) : Type 0 where
    pub within : j ≤ k
    pub product_is : Holds product (eval_eq field (rest ps k j) (rest rs k j))

  abbrev parts : NextParts Ext
  parts = eval_next field (rest ps k j) (rest rs k j)

  pub record Nexting (carry done last : Element) : Type 0 where
    pub within : j ≤ k
    pub carry_is : Holds carry parts.carry
    pub done_is : Holds done parts.done
    pub omega_is : Holds last parts.omega

module _ (ps rs : List ℕ) (k : ℕ) where
  pub agreed_start : {product : Element} → Holds product field.one → Agreed ps rs k k product
  unfolding eval_eq
  agreed_start a = record { within = omega arith; product_is = rw (rest_none ps k) a }

  pub next_start : {carry done last : Element} → Holds carry field.one → Holds done field.zero → Holds last field.one
      → Nexting ps rs k k carry done last
  unfolding eval_next
  next_start a b c =
      record {
        within = omega arith;
        carry_is = rw (rest_none ps k) a;
        done_is = rw (rest_none ps k) b;
        omega_is = rw (rest_none ps k) c;
      }

-- a turn, at the pair s, t before j
module _ (ps rs : List ℕ) (k j : ℕ) (h : 0 < j) {s t : Element}
    (e₁ : Holds s (element_at ps (j - 1))) (e₂ : Holds t (element_at rs (j - 1))) where
  pub agreed_turn : {product agrees new : Element} → Agreed ps rs k j product → Holds agrees (agreement field (from_words s) (from_words t))
      → Holds new (field.mul (from_words agrees) (from_words product)) → Agreed ps rs k (j - 1) new
  unfolding eval_eq
  agreed_turn d e₃ e₄ =
      record {
        within = omega arith;
        product_is = rw (rest_more ps k j d.within h, rest_more rs k j d.within h)
            (rw (read_as _ e₃, read_as _ d.product_is, read_as _ e₁, read_as _ e₂) at e₄);
      }

  pub next_turn : {both carry done last carry₁ done₁ last₁ : Element} → Nexting ps rs k j carry done last
      → Holds both (field.mul (from_words s) (from_words t))
      → Holds done₁ (done_step field (from_words s) (from_words t) (from_words done) (from_words carry))
      → Holds carry₁ (field.mul (minus field (from_words s) (from_words both)) (from_words carry))
      → Holds last₁ (field.mul (from_words both) (from_words last)) → Nexting ps rs k (j - 1) carry₁ done₁ last₁
  unfolding eval_next
  next_turn d b e₃ e₄ e₅ =
      let p = rest_more ps k j d.within h in
      let r = rest_more rs k j d.within h in
      record {
        within = omega arith;
        carry_is = rw (p, r)
            (rw (read_as _ b, carried_by _ _ _, read_as _ e₁, read_as _ e₂, read_as _ d.carry_is) at e₄);
        done_is = rw (p, r) (rw (read_as _ e₁, read_as _ e₂, read_as _ d.done_is, read_as _ d.carry_is) at e₃);
        omega_is = rw (p, r) (rw (read_as _ b, read_as _ e₁, read_as _ e₂, read_as _ d.omega_is) at e₅);
      }

-- an element that is held has its four words
pub four : {e : Element} {x : Ext} → Holds e x → FourWords e
four {x = x} h = rw h.words (omega (arith, size x))

module _ (ps rs : List ℕ) (k j : ℕ) (z : j ≡ 0) where
  pub agreed_finish : {product : Element} → Agreed ps rs k j product → Holds product (eval_eq field (elements ps 0 k) (elements rs 0 k))
  agreed_finish d = rw (rest_all ps k j z, rest_all rs k j z) at d.product_is

  pub next_finish : {e : Parts} → Nexting ps rs k j e.carry e.done e.omega → HoldParts e (eval_next field (elements ps 0 k) (elements rs 0 k))
  next_finish d =
      rw (← rest_all ps k j z, ← rest_all rs k j z)
      (record { carry_is = d.carry_is; done_is = d.done_is; omega_is = d.omega_is })
