-- The loop that adds the last word of each place by one weight: how it steps. Assumes nothing.
use mathlib.Core.Path.{◌≡◌, refl, ◌∙◌}
use Prim.Native.Nat.{ℕ, ◌+◌, ◌-◌, ◌*◌, ◌≤◌, ◌<◌}
use native.Mathlib.Omega.{arith}
use mathlib.Core.List.{List}
use lib.ListN.{length, get_or, take, drop, length-drop}
use lib.Seq.{length-take-le, get_or-take, get_or-drop}
use Rattle.algebra.proofs.Words.{below}
use Rattle.field.specs.Field.{p, p_pos, Ext, field, base, from_words, Holds}
use Rattle.field.specs.declared.Element.{Element}
use Rattle.field.proofs.Laws.{read_as}
use Rattle.table.specs.Table.{element_at, put_at}
use Rattle.table.specs.Gained.{Gained}
use Rattle.table.proofs.Gaining.{turn}
use Rattle.padding.specs.Inner.{Spreads}

-- what a place gains
abbrev pub term : Element → List ℕ → ℕ → Ext
term weight last i = field.mul (from_words weight) (base (get_or last i 0))

-- the first i places from `from` on have gained
pub record Spread (from to : ℕ) (last : List ℕ) (weight : Element) (out w : List ℕ) (i : ℕ) : Type 0 where
  pub within : from + i ≤ to
  pub gained : Gained from i (λ y. term weight last (from + y)) out w

module _ {from to : ℕ} {last : List ℕ} {weight : Element} {out : List ℕ} (s : Spreads from to last weight out) where
  -- the words of the places
  length_part : length (take (to - from) (drop from last)) ≡ to - from
  length_part = length-take-le (to - from) (drop from last) (omega (arith, length-drop from last, s.last_room))

  module _ {i : ℕ} (h : i < length (take (to - from) (drop from last))) where
    at_part : get_or (take (to - from) (drop from last)) i 0 ≡ get_or last (from + i) 0
    at_part = get_or-take (to - from) (drop from last) i 0 (omega (arith, length_part)) ∙ get_or-drop from last i 0

    pub word_below : get_or (take (to - from) (drop from last)) i 0 < p
    word_below = rw at_part (below p last s.last_below p_pos (from + i))

    place : 4 * (from + i) + 3 < length out
    place = omega (arith, s.room, s.after, length_part)

    pub next : {w : List ℕ} → Spread from to last weight out w i → {r x e : Element} {w' : List ℕ} → Holds r (element_at w (from + i))
        → Holds x (field.mul (from_words weight) (base (get_or (take (to - from) (drop from last)) i 0)))
        → Holds e (field.add (from_words r) (from_words x)) → w' ≡ put_at w (from + i) e → Spread from to last weight out w' (i + 1)
    next {w} d {r} {x} hr hx he put =
        let u : from_words x ≡ term weight last (from + i) = read_as _ (rw at_part at hx) in
        record {
          within = omega (arith, s.after, length_part);
          gained =
              turn from i (λ y. term weight last (from + y)) out w d.gained place (from + i) refl (from_words r) (from_words x)
              (read_as _ hr) u he put;
        }
