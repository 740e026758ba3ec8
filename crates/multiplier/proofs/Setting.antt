-- A place more of a table that is set: it becomes its element, and the others stay. Assumes nothing.
use Rattle.std.proofs.Common.{◌≡◌, refl, ap, subst, ◌∙◌, ℕ, ◌+◌, ◌*◌, ◌<◌, List, length, arith}
use mathlib.Core.Logic.{◌≢◌}
use borrow.Author.Count.{below_more}
use Rattle.field.specs.Field.{Ext, field, to_words, from_words, Holds}
use Rattle.field.specs.declared.Element.{Element}
use Rattle.field.proofs.Laws.{field_ring, read_as, size}
use Rattle.table.specs.Table.{get_at, put_at}
use Rattle.table.proofs.Laws.{length_put, get_put_other, get_put_same}
use Rattle.multiplier.specs.Tables.{Becomes}

-- the product with a row's element, in the order of the formula
pub by_row : {x e : Element} {v : Ext} (r : Ext) → Holds x v → Holds e (field.mul (from_words x) r) → Holds e (field.mul r v)
by_row {x} {e} {v} r a b = subst (Holds e) (ap (λ u. field.mul u r) (read_as v a) ∙ field_ring.mul_comm v r) b

pub nothing : (from : ℕ) (g : ℕ → Ext) (ws : List ℕ) → Becomes from 0 g ws ws
nothing from g ws = record { len = refl; is = λ y h. absurd (omega arith); before = λ y h. refl; after = λ y h. refl }

module _ (from i : ℕ) (g : ℕ → Ext) (ws w : List ℕ) (d : Becomes from i g ws w) (l : 4 * (from + i) + 3 < length ws) where
  abbrev next : List ℕ
  next = put_at w (from + i) (to_words (g i))

  kept : (y : ℕ) → y ≢ from + i → get_at next y ≡ get_at w y
  kept y h = get_put_other w (from + i) (to_words (g i)) y h

  step : Becomes from (i + 1) g ws next
  step =
      record {
        len = length_put w (from + i) (to_words (g i)) ∙ d.len;
        is = below_more (λ y. get_at next (from + y) ≡ to_words (g y)) i (λ y h. kept (from + y) (λ q. omega arith) ∙ d.is y h)
            (get_put_same w (from + i) (to_words (g i)) (omega (arith, d.len)) (size _));
        before = λ y h. kept y (λ q. omega arith) ∙ d.before y h;
        after = λ y h. kept y (λ q. omega arith) ∙ d.after y (omega arith);
      }

  -- of the element that a turn puts there
  pub turn : {e : Element} {w' : List ℕ} → Holds e (g i) → w' ≡ put_at w (from + i) e → Becomes from (i + 1) g ws w'
  turn h q = rw (q, h.words) step
