-- The field is a commutative ring, and what the code computes on words are its operations. Assumes nothing.
use Rattle.std.proofs.Common.{◌≡◌, ℕ, ◌+◌, ◌-◌, ◌*◌, ◌%◌, ◌<◌, List, [], ◌∷◌, length, get_or, sym, refl, ap, ◌∙◌, mod-eq_of_lt, arith}
use Rattle.algebra.specs.Ring.{CommRing, minus}
use Rattle.algebra.specs.Residue.{reduce, residues}
use Rattle.algebra.specs.Quartic.{quartic, constant}
use Rattle.algebra.specs.Words.{words_of, numbers}
use Rattle.algebra.proofs.Residues.{residue_ring, reduce_mod, reduce_mul, add_mul_mod}
use Rattle.algebra.proofs.Quartics.{quartic_ring, constant_mul}
use Rattle.algebra.proofs.Words.{below, words_reduced}
use Rattle.algebra.proofs.Numbers.{numbers_again, numbers_add, numbers_sub, numbers_neg, numbers_scale, numbers_mul}
use Rattle.field.specs.declared.Element.{Element}
use Rattle.field.specs.Product.{once_at, back_at}
use Rattle.field.specs.Field.{p, p_pos, factor, Ext, field, base, to_words, from_words, at, Reduced, Holds, ByWord}

pub field_ring : CommRing field
unfolding field
field_ring = quartic_ring (residue_ring p p_pos) (reduce p p_pos factor)

-- each word of a reduced element is below p
pub word_below : {e : Element} → Reduced e → (i : ℕ) → at e i < p
word_below {e} h i = below p e.c h.words_below p_pos i

-- an element's words are below p, and read back as it
pub reduced : (x : Ext) → Reduced (to_words x)
unfolding to_words
reduced x = record { words_below = words_reduced x }

pub holds : {e : Element} (x : Ext) → e ≡ to_words x → Holds e x
holds x h = record { words = h; below = rw h (reduced x) }

pub read_back : (x : Ext) → from_words (to_words x) ≡ x
unfolding to_words from_words words_of
read_back x = numbers_again p p_pos x

pub size : (x : Ext) → length (to_words x).c ≡ 4
unfolding to_words words_of
size x = refl

pub read_as : {e : Element} (x : Ext) → Holds e x → from_words e ≡ x
read_as x h = ap from_words h.words ∙ read_back x

-- a list of four is its four words
pub four : (l : List ℕ) → length l ≡ 4 → l ≡ get_or l 0 0 ∷ get_or l 1 0 ∷ get_or l 2 0 ∷ get_or l 3 0 ∷ []
four [] e = absurd (omega arith)
four (a ∷ []) e = absurd (omega arith)
four (a ∷ b ∷ []) e = absurd (omega arith)
four (a ∷ b ∷ c ∷ []) e = absurd (omega arith)
four (a ∷ b ∷ c ∷ d ∷ []) e = refl
four (a ∷ b ∷ c ∷ d ∷ f ∷ l) e = absurd (omega arith)

-- words below p are those of the element that they are read as
pub words_again : (e : Element) → length e.c ≡ 4 → Reduced e → e ≡ to_words (from_words e)
unfolding to_words from_words words_of numbers reduce
words_again e l h =
    simp (mod-eq_of_lt (word_below h 0), mod-eq_of_lt (word_below h 1), mod-eq_of_lt (word_below h 2), mod-eq_of_lt (word_below h 3))
    (λ i. record { c = four e.c l i })

pub holds_again : (e : Element) → length e.c ≡ 4 → Reduced e → Holds e (from_words e)
holds_again e l h = record { words = words_again e l h; below = h }

-- the element of four words
abbrev pub words : ℕ → ℕ → ℕ → ℕ → Element
words a0 a1 a2 a3 = record { c = a0 ∷ a1 ∷ a2 ∷ a3 ∷ [] }

-- an array of four words
pub joined : {e : Element} {a0 a1 a2 a3 : ℕ} → length e.c ≡ 4 → at e 0 ≡ a0 → at e 1 ≡ a1 → at e 2 ≡ a2 → at e 3 ≡ a3 → e ≡ words a0 a1 a2 a3
joined {e} l e0 e1 e2 e3 = (λ i. record { c = four e.c l i }) ∙ rw (e0, e1, e2, e3) refl

-- four words of an element are it, and below p
pub four_words_lem : (x : Ext) {a0 a1 a2 a3 : ℕ} → a0 ≡ at (to_words x) 0 → a1 ≡ at (to_words x) 1 → a2 ≡ at (to_words x) 2 → a3 ≡ at (to_words x) 3
    → Holds (words a0 a1 a2 a3) x
unfolding to_words words_of
four_words_lem x e0 e1 e2 e3 = holds x (rw (e0, e1, e2, e3))

pub zero_law : words 0 0 0 0 ≡ to_words field.zero
unfolding field to_words words_of reduce quartic residues
zero_law = refl

pub one_law : words 1 0 0 0 ≡ to_words field.one
unfolding field to_words words_of reduce quartic residues
one_law = refl

pub base_law : (k : ℕ) → k < p → words k 0 0 0 ≡ to_words (base k)
unfolding base to_words words_of reduce constant residues
base_law k h = simp (mod-eq_of_lt h)

pub base_zero : base 0 ≡ field.zero
base_zero = sym (read_back (base 0)) ∙ ap from_words (sym (base_law 0 p_pos) ∙ zero_law) ∙ read_back field.zero

-- products of base words
pub base_mul : (a b : ℕ) → base (a * b % p) ≡ field.mul (base a) (base b)
unfolding base field
base_mul a b =
    ap (constant (residues p p_pos) (reduce p p_pos factor)) (reduce_mod p p_pos (a * b) ∙ reduce_mul p p_pos a b)
    ∙ sym (constant_mul (residue_ring p p_pos) (reduce p p_pos factor) (reduce p p_pos a) (reduce p p_pos b))

module _ (x : Element) where
  pub neg_law : words ((p - at x 0 % p) % p) ((p - at x 1 % p) % p) ((p - at x 2 % p) % p) ((p - at x 3 % p) % p)
      ≡ to_words (field.neg (from_words x))
  unfolding field to_words words_of from_words numbers reduce
  neg_law = ap to_words (numbers_neg p p_pos factor (at x 0) (at x 1) (at x 2) (at x 3) 0 0 0 0)

  pub scale_law : (w : ℕ) → words (at x 0 * w % p) (at x 1 * w % p) (at x 2 * w % p) (at x 3 * w % p)
      ≡ to_words (field.mul (from_words x) (base w))
  unfolding field base to_words words_of from_words numbers reduce
  scale_law w = ap to_words (numbers_scale p p_pos factor (at x 0) (at x 1) (at x 2) (at x 3) w 0 0 0)

  -- where a word of r is known by those of x, so is r
  pub negated : {r : Element} → length r.c ≡ 4 → ByWord (λ i w. w ≡ (p - at x i % p) % p) r → Holds r (field.neg (from_words x))
  negated l b = holds _ (joined l b.each.0 b.each.1 b.each.2 b.each.3 ∙ neg_law)

  pub scaled : (w : ℕ) {r : Element} → length r.c ≡ 4 → ByWord (λ i v. v ≡ at x i * w % p) r → Holds r (field.mul (from_words x) (base w))
  scaled w l b = holds _ (joined l b.each.0 b.each.1 b.each.2 b.each.3 ∙ scale_law w)

module _ (x y : Element) where
  pub add_law : words ((at x 0 + at y 0) % p) ((at x 1 + at y 1) % p) ((at x 2 + at y 2) % p) ((at x 3 + at y 3) % p)
      ≡ to_words (field.add (from_words x) (from_words y))
  unfolding field to_words words_of from_words numbers reduce
  add_law = ap to_words (numbers_add p p_pos factor (at x 0) (at x 1) (at x 2) (at x 3) (at y 0) (at y 1) (at y 2) (at y 3))

  pub sub_law : words ((at x 0 + (p - at y 0 % p)) % p) ((at x 1 + (p - at y 1 % p)) % p) ((at x 2 + (p - at y 2 % p)) % p)
      ((at x 3 + (p - at y 3 % p)) % p)
      ≡ to_words (minus field (from_words x) (from_words y))
  unfolding field to_words words_of from_words numbers reduce
  sub_law = ap to_words (numbers_sub p p_pos factor (at x 0) (at x 1) (at x 2) (at x 3) (at y 0) (at y 1) (at y 2) (at y 3))

  -- where a word of r is known by those of x and y, so is r
  pub added : {r : Element} → length r.c ≡ 4 → ByWord (λ i w. w ≡ (at x i + at y i) % p) r → Holds r (field.add (from_words x) (from_words y))
  added l b = holds _ (joined l b.each.0 b.each.1 b.each.2 b.each.3 ∙ add_law)

  pub subtracted : {r : Element} → length r.c ≡ 4 → ByWord (λ i w. w ≡ (at x i + (p - at y i % p)) % p) r
      → Holds r (minus field (from_words x) (from_words y))
  subtracted l b = holds _ (joined l b.each.0 b.each.1 b.each.2 b.each.3 ∙ sub_law)

  -- a coordinate of the product, by the sums of the lines that give it
  abbrev coordinate : ℕ → ℕ
  coordinate k = (once_at x y k + factor * (back_at x y k % p)) % p

  pub mul_law : words (coordinate 0) (coordinate 1) (coordinate 2) (coordinate 3) ≡ to_words (field.mul (from_words x) (from_words y))
  unfolding field to_words words_of from_words numbers reduce once_at back_at
  mul_law =
      rw (add_mul_mod _ factor (back_at x y 0) p, add_mul_mod _ factor (back_at x y 1) p, add_mul_mod _ factor (back_at x y 2) p, add_mul_mod _ factor (back_at x y 3) p)
      (ap to_words (numbers_mul p p_pos factor (at x) (at y)))
