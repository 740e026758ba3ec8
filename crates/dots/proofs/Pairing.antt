-- The sums of the products of two tables of elements, coefficient by coefficient, and what they stand for. Assumes nothing.
use mathlib.Core.Path.{◌≡◌, refl, sym, ap, ap₂, ◌∙◌}
use mathlib.Core.Bool.{true}
use Prim.Native.Nat.{ℕ, zero, suc, ◌+◌, ◌*◌, ◌≤◌, ◌<◌}
use native.Mathlib.Nat.{add-zero, mul-zero}
use native.Mathlib.Numerals.{add-one}
use native.Mathlib.Omega.{arith}
use mathlib.Core.List.{List}
use Rattle.algebra.specs.Residue.{reduce, residues}
use Rattle.algebra.specs.Quartic.{quartic}
use Rattle.algebra.specs.Sum.{sum_to}
use Rattle.algebra.specs.Words.{words_of, numbers}
use Rattle.algebra.specs.Lines.{gather, lines, sums}
use Rattle.algebra.proofs.Numbers.{numbers_mul, folded, folded_add}
use Rattle.field.specs.Field.{p, p_pos, factor, Ext, field, to_words, from_words, at, Holds}
use Rattle.field.specs.Product.{once_at, back_at}
use Rattle.field.specs.declared.Element.{Element}
use Rattle.field.proofs.Laws.{holds, read_back}
use Rattle.dots.specs.declared.halves.Halves.{Halves}
use Rattle.dots.specs.Inner.{value, Within, Kept, Each, EachGrown, Room, coefficients, coefficient, settled_powers, most_gains}
use Rattle.dots.proofs.Summing.{kept_none, kept_room, kept_more}

-- no line that comes back gives X³
none_back : (a b : ℕ → ℕ) → sums true 3 a b ≡ 0
unfolding gather lines
none_back a b = refl

-- so the factor brings nothing there
none_gained : (w n : ℕ) (a b : ℕ → ℕ) → n ≡ n + w * sums true 3 a b
none_gained w n a b = sym (ap (λ (x : ℕ). n + w * x) (none_back a b) ∙ ap (λ (x : ℕ). n + x) (mul-zero w) ∙ add-zero n)

-- the element of a product's coefficients is the field's product
product_law : (x y : Ext) → folded p p_pos factor (coefficient (to_words x) (to_words y)) ≡ field.mul x y
unfolding coefficients once_at back_at field from_words
product_law x y = words_product (to_words x) (to_words y) ∙ ap₂ field.mul (read_back x) (read_back y)
  where
    words_product : (a b : Element) → folded p p_pos factor (coefficient a b) ≡ field.mul (from_words a) (from_words b)
    words_product a b =
        ap (numbers p p_pos _ _ _) (none_gained factor (coefficient a b 3) (at a) (at b))
        ∙ numbers_mul p p_pos factor (at a) (at b)

-- from what holds of each sum, what follows of it
each_map : {n : ℕ} {P Q : ℕ → Halves → Type 0} {s : List Halves} → ((k : ℕ) (h : Halves) → P k h → Q k h) → Each n P s → Each n Q s
each_map f e = record { each = λ k l. f k _ (e.each k l) }

-- the sum of f y g y over y
module _ (f g : ℕ → Ext) where
  -- coefficient k of the product at y, not reduced
  abbrev term : ℕ → ℕ → ℕ
  term y k = coefficient (to_words (f y)) (to_words (g y)) k

  -- that of the sum of the first n products
  unfoldable pub power : ℕ → ℕ → ℕ
  power k zero = 0
  power k (suc n) = power k n + term n k

  -- s is the sum of the first n products
  abbrev pub Paired : ℕ → List Halves → Type 0
  Paired n s = Each 7 (λ k h. Kept (power k) n h) s

  pub start : {s : List Halves} → Each 7 (λ k h. (value h ≡ 0) × Within 0 h) s → Paired 0 s
  unfolding power
  start e = each_map (λ k h z. kept_none (power k) refl z) e

  pub room : (n : ℕ) {s : List Halves} → n ≤ most_gains → Paired n s → Room 7 s
  room n l u = each_map (λ k h v. kept_room (power k) n v l) u

  next : (n k : ℕ) → power k (n + 1) ≡ power k n + term n k
  unfolding power
  next n k = rw add-one refl

  pub turn : (n : ℕ) {s r : List Halves} {x y : Element} → Paired n s → Holds x (f n) → Holds y (g n)
      → EachGrown 7 s (coefficients x y) r → Paired (n + 1) r
  turn n {s} {r} u hx hy grown =
      let at_words : EachGrown 7 s (coefficients (to_words (f n)) (to_words (g n))) r = rw (hx.words, hy.words) at grown in
      record { each = λ k l. kept_more (power k) n (u.each k l) 1 _ (omega arith) (next n k) (at_words.each k l) }

  abbrev product : ℕ → Ext
  product y = field.mul (f y) (g y)

  -- the element of the seven coefficients of n products
  abbrev summed : ℕ → Ext
  summed n = folded p p_pos factor (λ k. power k n)

  none : summed 0 ≡ field.zero
  unfolding power field numbers quartic residues
  none = refl

  more : (n : ℕ) → summed (suc n) ≡ field.add (summed n) (product n)
  unfolding power field
  more n = folded_add p p_pos factor (λ k. power k n) (term n) ∙ ap (field.add (summed n)) (product_law (f n) (g n))

  sum_law : (n : ℕ) → summed n ≡ sum_to field n product
  unfolding sum_to
  sum_law zero = none
  sum_law (suc n) = more n ∙ ap (λ (x : Ext). field.add x (product n)) (sum_law n)

  pub finish : (n : ℕ) {s : List Halves} → Paired n s → Holds (settled_powers s) (sum_to field n product)
  unfolding settled_powers to_words words_of numbers reduce
  finish n u =
      let is = λ (k : ℕ) (l : k < 7). (u.each k l).is in
      holds _
      (rw (
        is 0 (omega arith),
        is 1 (omega arith),
        is 2 (omega arith),
        is 3 (omega arith),
        is 4 (omega arith),
        is 5 (omega arith),
        is 6 (omega arith),
      ) (ap to_words (sum_law n)))
