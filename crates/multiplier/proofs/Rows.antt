-- A product by the rows of its lines, where what comes back was multiplied by X⁴ before. Assumes nothing.
use Prim.Native.Nat.{ℕ, zero, suc, ◌+◌, ◌*◌, ◌%◌, ◌<◌}
use native.Mathlib.Omega.{arith}
use mathlib.Core.Path.{◌≡◌, refl, sym, ap, ◌∙◌}
use mathlib.Core.Bool.{true}
use mathlib.Core.List.{[], ◌∷◌}
use native.Mathlib.Nat.{mod-mod}
use Rattle.algebra.specs.Residue.{reduce}
use Rattle.algebra.specs.Words.{words_of, numbers}
use Rattle.algebra.specs.Lines.{lines, gather, sums}
use Rattle.algebra.proofs.Numbers.{numbers_add, numbers_scale, numbers_lines}
use Rattle.algebra.proofs.Reading.{reading, ring}
use Rattle.field.specs.declared.Element.{Element}
use Rattle.field.specs.Field.{p, p_pos, factor, Ext, field, base, to_words, from_words, at, Holds}
use Rattle.field.specs.Inner.{unit}
use Rattle.field.specs.Product.{once_at, back_at}
use Rattle.field.proofs.Laws.{field_ring, words, read_as, scale_law}
use Rattle.lowering.specs.Lowering.{unit_inverse}
use Rattle.lowering.proofs.Laws.{raised_lowered}
use Rattle.multiplier.specs.declared.Multiplier.{Multiplier}
use Rattle.multiplier.specs.Ready.{product_word}

-- a word of y times X⁴
abbrev times_factor : Element → ℕ → ℕ
times_factor y j = at y j * factor % p

-- what comes back, of those words
abbrev raised : Element → Element
raised y = words (times_factor y 0) (times_factor y 1) (times_factor y 2) (times_factor y 3)

module _ (x y : Element) where
  back_0 : back_at x (raised y) 0 ≡ sums true 0 (at x) (times_factor y)
  unfolding back_at gather lines
  back_0 = refl

  back_1 : back_at x (raised y) 1 ≡ sums true 1 (at x) (times_factor y)
  unfolding back_at gather lines
  back_1 = refl

  back_2 : back_at x (raised y) 2 ≡ sums true 2 (at x) (times_factor y)
  unfolding back_at gather lines
  back_2 = refl

  back_3 : back_at x (raised y) 3 ≡ sums true 3 (at x) (times_factor y)
  unfolding back_at gather lines
  back_3 = refl

  -- the sum of a row
  abbrev pub row_sum : Element → ℕ → ℕ
  row_sum z k = once_at x y k + back_at x z k

  raised_rows : numbers p p_pos (row_sum (raised y) 0) (row_sum (raised y) 1) (row_sum (raised y) 2) (row_sum (raised y) 3)
      ≡ field.mul (from_words x) (from_words y)
  unfolding field from_words once_at
  raised_rows =
      rw (back_0, back_1, back_2, back_3)
      (numbers_lines p p_pos factor (at x) (at y) (times_factor y) (λ j. mod-mod (at y j * factor) p))

  -- the four rows are the product
  pub rows_product : {z : Element} → Holds z (field.mul (from_words y) (base factor))
      → numbers p p_pos (row_sum z 0) (row_sum z 1) (row_sum z 2) (row_sum z 3) ≡ field.mul (from_words x) (from_words y)
  rows_product h = rw (h.words ∙ sym (scale_law y factor)) raised_rows

  -- added to o
  pub added_rows : (o : Element) {z : Element} → Holds z (field.mul (from_words y) (base factor))
      → words ((at o 0 + row_sum z 0) % p) ((at o 1 + row_sum z 1) % p) ((at o 2 + row_sum z 2) % p) ((at o 3 + row_sum z 3) % p)
      ≡ to_words (field.add (from_words o) (field.mul (from_words x) (from_words y)))
  unfolding field to_words words_of from_words numbers reduce
  added_rows o h =
      ap to_words
      (numbers_add p p_pos factor (at o 0) (at o 1) (at o 2) (at o 3) _ _ _ _ ∙ ap (field.add (from_words o)) (rows_product h))

-- by a factor that was made ready: each row's sum divided by 2³²
module _ (m : Multiplier) (x : Element) where
  abbrev lowered_row : ℕ → ℕ
  lowered_row k = row_sum x m.y m.back k * unit_inverse

  -- 2³² and its inverse go out
  lowers : (e r : Ext) → field.mul (field.mul e (field.mul r (base unit))) (base unit_inverse) ≡ field.mul e r
  lowers e r =
      reading field_ring (e ∷ r ∷ base unit ∷ base unit_inverse ∷ []) (λ q. simp (ring, q, q.at 0, q.at 1, q.at 2, q.at 3) (q.close tt))
      ∙ ap (field.mul (field.mul e r)) raised_lowered
      ∙ field_ring.mul_one (field.mul e r)

  product_rows : numbers p p_pos (lowered_row 0) (lowered_row 1) (lowered_row 2) (lowered_row 3) ≡ field.mul (from_words x) (from_words m.r)
  unfolding field base
  product_rows =
      numbers_scale p p_pos factor (row_sum x m.y m.back 0) (row_sum x m.y m.back 1) (row_sum x m.y m.back 2) (row_sum x m.y m.back 3)
      unit_inverse
      0
      0
      0
      ∙ ap (λ (e : Ext). field.mul e (base unit_inverse))
      (rows_product x m.y m.ready.raised_back ∙ ap (field.mul (from_words x)) (read_as _ m.ready.raised))
      ∙ lowers (from_words x) (from_words m.r)

  -- and its words
  pub row_word : (k : ℕ) → k < 4 → lowered_row k % p ≡ product_word x m.r k
  unfolding to_words words_of numbers reduce
  row_word zero h = ap (λ (e : Ext). at (to_words e) 0) product_rows
  row_word (suc zero) h = ap (λ (e : Ext). at (to_words e) 1) product_rows
  row_word (suc (suc zero)) h = ap (λ (e : Ext). at (to_words e) 2) product_rows
  row_word (suc (suc (suc zero))) h = ap (λ (e : Ext). at (to_words e) 3) product_rows
  row_word (suc (suc (suc (suc k)))) h = absurd (omega arith)
