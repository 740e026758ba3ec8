-- Sums of words, each times its weight, coordinate by coordinate. Assumes nothing.
use Rattle.std.proofs.Common.{◌≡◌, ℕ, zero, suc, ◌+◌, ◌-◌, ◌*◌, ◌%◌, ◌<◌, ◌≤◌, get_or, length, List, [], ◌∷◌, refl, sym, ap, ◌∙◌, arith}
use Rattle.std.proofs.Math.Nat.{mul-le-mul_right, mul-le-mul_left, suc-mul, mul-suc, add-zero}
use Rattle.std.proofs.lemmas.List.Elements.{All-from_get_or}
use Rattle.algebra.specs.Residue.{reduce, residues}
use Rattle.algebra.specs.Quartic.{quartic}
use Rattle.algebra.specs.Sum.{sum_to}
use Rattle.algebra.specs.Words.{words_of, numbers}
use Rattle.algebra.proofs.Ring.{zero_add}
use Rattle.algebra.proofs.Reading.{reading, ring}
use Rattle.algebra.proofs.Sums.{sum_ext, sum_scale}
use Rattle.algebra.proofs.Words.{below}
use Rattle.algebra.proofs.Numbers.{numbers_scale}
use Rattle.field.specs.Field.{p, p_pos, factor, Ext, field, base, to_words, from_words, at, Reduced, Holds}
use Rattle.field.specs.declared.Element.{Element}
use Rattle.field.proofs.Laws.{field_ring, holds, read_as}
use Rattle.field.specs.Inner.{unit}
use Rattle.lowering.proofs.Laws.{raised_lowered}
use Rattle.field.proofs.Multiples.{numbers_gain}
use Rattle.lowering.specs.Lowering.{unit_inverse}
use Rattle.kernel.specs.Kernel.{Groups, Row, Weights, weight_at, weighed}
use Rattle.kernel.specs.Inner.{products, Raised, There}

-- the element of four words
abbrev words : ℕ → ℕ → ℕ → ℕ → Element
words a0 a1 a2 a3 = record { c = a0 ∷ a1 ∷ a2 ∷ a3 ∷ [] }

numbers_zero : numbers p p_pos 0 0 0 0 ≡ field.zero
unfolding numbers field quartic residues reduce
numbers_zero = refl

module _ (weights : List Element) (word : ℕ → ℕ) where
  abbrev sum : ℕ → ℕ → ℕ
  sum n k = products weights k word n

  assoc : (a b c : ℕ) → a + (b + c) ≡ a + b + c
  assoc a b c = omega arith

  numbers_gained : (n a0 a1 a2 a3 : ℕ)
      → numbers p p_pos (a0 + sum n 0) (a1 + sum n 1) (a2 + sum n 2) (a3 + sum n 3)
      ≡ field.add (numbers p p_pos a0 a1 a2 a3) (weighed n weights word)
  unfolding products weighed sum_to from_words
  numbers_gained zero a0 a1 a2 a3 = simp add-zero (sym (field_ring.add_zero _))
  numbers_gained (suc n) a0 a1 a2 a3 =
      rw (assoc a0 _ _, assoc a1 _ _, assoc a2 _ _, assoc a3 _ _)
      (numbers_gain _ _ _ _ _ _ _ _ _
      ∙ ap (λ u. field.add u (field.mul (from_words (weight_at weights n)) (base (word n)))) (numbers_gained n a0 a1 a2 a3)
      ∙ field_ring.add_assoc _ _ _)

  module _ (n : ℕ) where
    -- of the residues that the calls give
    pub step_law : (x : Element) {r0 r1 r2 r3 : ℕ}
        → r0 ≡ (at x 0 + sum n 0) % p → r1 ≡ (at x 1 + sum n 1) % p → r2 ≡ (at x 2 + sum n 2) % p → r3 ≡ (at x 3 + sum n 3) % p
        → Holds (words r0 r1 r2 r3) (field.add (from_words x) (weighed n weights word))
    unfolding to_words words_of from_words numbers reduce
    step_law x q0 q1 q2 q3 = holds _ (rw (q0, q1, q2, q3) (ap to_words (numbers_gained n (at x 0) (at x 1) (at x 2) (at x 3))))

    alone : numbers p p_pos (0 + sum n 0) (0 + sum n 1) (0 + sum n 2) (0 + sum n 3) ≡ weighed n weights word
    alone = numbers_gained n 0 0 0 0 ∙ ap (λ u. field.add u (weighed n weights word)) numbers_zero ∙ zero_add field_ring _

    -- and of the sums divided by 2³²
    pub lowered_law : {r0 r1 r2 r3 : ℕ} → r0 ≡ (0 + sum n 0) * unit_inverse % p → r1 ≡ (0 + sum n 1) * unit_inverse % p
        → r2 ≡ (0 + sum n 2) * unit_inverse % p → r3 ≡ (0 + sum n 3) * unit_inverse % p
        → Holds (words r0 r1 r2 r3) (field.mul (weighed n weights word) (base unit_inverse))
    unfolding to_words words_of numbers reduce field base
    lowered_law q0 q1 q2 q3 =
        holds _
        (rw (q0, q1, q2, q3)
        (ap to_words
        (numbers_scale p p_pos factor (0 + sum n 0) (0 + sum n 1) (0 + sum n 2) (0 + sum n 3) unit_inverse 0 0 0
        ∙ ap (λ u. field.mul u (base unit_inverse)) alone)))

-- what is multiplied by 2³² and divided by it
term : {v : Element} (w : Element) (x : Ext) → Holds v (field.mul (from_words w) (base unit))
    → field.mul (field.mul (from_words v) x) (base unit_inverse) ≡ field.mul (from_words w) x
term w x h =
    ap (λ (u : Ext). field.mul (field.mul u x) (base unit_inverse)) (read_as _ h)
    ∙ swapped (from_words w) (base unit) x (base unit_inverse)
    ∙ ap (field.mul _) raised_lowered
    ∙ field_ring.mul_one _
  where
    swapped : (w u x b : Ext) → field.mul (field.mul (field.mul w u) x) b ≡ field.mul (field.mul w x) (field.mul u b)
    swapped w u x b = reading field_ring (w ∷ u ∷ x ∷ b ∷ []) λ q. simp (ring, q, q.at 0, q.at 1, q.at 2, q.at 3) (q.close tt)

pub lowered_again : (n : ℕ) (ws vs : List Element) (word : ℕ → ℕ) → Raised n ws vs
    → field.mul (weighed n vs word) (base unit_inverse) ≡ weighed n ws word
unfolding weighed
lowered_again n ws vs word r =
    field_ring.mul_comm _ _ ∙ sym (sum_scale field_ring n (base unit_inverse) _)
    ∙ sum_ext field_ring n _ _ (λ t h. field_ring.mul_comm _ _ ∙ term _ _ (r.each t h))

-- a word of each of k rows of n words or fewer, and words from a place on, where they are one apart or all the same
pub row_there : {k from n apart : ℕ} {out words : List ℕ} (y : ℕ) → Groups k from n out words → y < n → apart ≤ n
    → There k words (record { first = y; apart = apart })
row_there {k} {from} {n} {apart} y g h near =
    record {
      within = λ t l. let m : suc t * n ≤ k * n = mul-le-mul_right n (omega arith) in
          let a : t * apart ≤ t * n = mul-le-mul_left t near in
          omega (arith, suc-mul t n, g.there);
      below = below p _ g.words_below p_pos;
    }

pub place_there : {k from n apart : ℕ} {out words : List ℕ} (i : ℕ) → Groups k from n out words → i < n → apart ≤ 1
    → There k words (record { first = k * i; apart = apart })
place_there {k} {from} {n} {apart} i g h near =
    record {
      within = λ t l. let m : k * suc i ≤ k * n = mul-le-mul_left k (omega arith) in
          let a : t * apart ≤ t * 1 = mul-le-mul_left t near in
          omega (arith, mul-suc k i, g.there);
      below = below p _ g.words_below p_pos;
    }

-- words that follow each other
pub weighed_place : (n : ℕ) (ws : List Element) (words : List ℕ) (a : ℕ)
    → weighed n ws (λ t. get_or words (t * 1 + a) 0) ≡ weighed n ws (λ t. get_or words (a + t) 0)
weighed_place n ws words a = ap (weighed n ws) (λ j t. get_or words (place t j) 0)
  where
    place : (t : ℕ) → t * 1 + a ≡ a + t
    place t = omega arith

-- one word by one weight
pub word_there : {apart start end : ℕ} {out words : List ℕ} {i : ℕ} → Row apart start end out words → i < end - start
    → There 1 words (record { first = i * apart; apart = 0 })
word_there {words} {i} r h =
    record {
      within = λ t l. let b = r.there i h in omega (arith, b);
      below = below p _ r.words_below p_pos;
    }

pub one_weighed : (weight : Element) (words : List ℕ) (a : ℕ)
    → weighed 1 (weight ∷ []) (λ t. get_or words (t * 0 + a) 0) ≡ field.mul (from_words weight) (base (get_or words a 0))
unfolding weighed sum_to
one_weighed weight words a =
    let q : 0 * 0 + a ≡ a = omega arith in
    zero_add field_ring _ ∙ ap (λ n. field.mul (from_words weight) (base (get_or words n 0))) q

-- weights times 2³² are reduced
pub raised_weights : {n : ℕ} {ws vs : List Element} → n ≤ 4 → length ws ≡ n → Raised n ws vs → Weights n vs
raised_weights few l r = record { few = few; below = All-from_get_or Reduced _ _ (λ t h. (r.each t (omega (arith, r.len))).below) }
