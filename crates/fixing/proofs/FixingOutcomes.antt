-- What tests that do not hold say of a table, and answer and out of a sum, by the verdict on its tests. Assumes nothing.
use Rattle.std.proofs.Common.{◌≡◌, ◌≢◌, ℕ, zero, suc, ◌*◌, ◌/◌, ◌^◌, ◌<◌, false, List, [], ◌∷◌, eqb, length, arith}
use native.Mathlib.Nat.{pow-suc}
use borrow.Author.Tests.{eqb-false, eq-eqb, ne_eqb}
use Rattle.std.specs.Prelude.{Ok, Err}
use Rattle.field.specs.Field.{field}
use Rattle.table.specs.Table.{entries}
use Rattle.table.specs.Refusals.{number, given, verdict, splits, not_power}
use Rattle.table.specs.declared.Refusal.{Refusal}
use Rattle.table.proofs.Fronts.{front_refused, front_passed}
use Rattle.table.proofs.Outcomes.{refused_leaves, refused_given, accepted_leaves, accepted_given}
use Rattle.table.proofs.Tests.{whole}
use Rattle.table.proofs.Powers.{power_of}
use Rattle.fixing.specs.Fixing.{Sum, sum_tests, fixed_table, remaining_outcome, sum_answer, sum_out}
use Rattle.fixing.specs.Inner.{size_tests, word_tests, TwoHalves}

-- a power of two but 1 is even
even : (n v : ℕ) → n ≡ 2 ^ v → n ≢ 1 → n ≡ 2 * (n / 2)
even n zero e h = absurd (h e)
even n (suc v) e h = omega (arith, pow-suc 2 v)

-- 1, 2 and 6 do not hold: a table of a variable or more has two halves
pub two_halves : (ws : List ℕ) → length ws < 2 ^ 64 → splits ws ≡ false → not_power (entries ws) ≡ false → eqb (entries ws) 1 ≡ false
    → TwoHalves (entries ws / 2) ws
two_halves ws b s n h =
    let w : 4 * entries ws ≡ length ws = whole ws s in
    let e : entries ws ≡ 2 * (entries ws / 2) =
    even (entries ws) _ (power_of (entries ws) (omega arith) n) (eqb-false (entries ws) 1 h) in
    record { few = omega arith; count = omega arith }

-- the answer by the verdict n on the tests
pub refused_count : (n : ℕ) (r : Refusal) → number r ≡ n → (ws : List ℕ) → remaining_outcome (Err r) ≡ given n ws
refused_count n r h ws = refused_given n r h ws

pub accepted_count : (n : ℕ) → 0 ≡ n → (count : ℕ) → remaining_outcome (Ok count) ≡ given n (count ∷ [])
accepted_count n h count = accepted_given n h (count ∷ [])

pub ruleset counts = (refused_count, accepted_count, refused_leaves, accepted_leaves)

-- answer and out of a sum
module _ (ws : List ℕ) where
  -- by the verdict on 1, 2, 3 and by that on 5
  pub by_sizes : (r : Refusal) → number r ≡ verdict (size_tests ws) → number r ≡ verdict (sum_tests ws)
  by_sizes r h = front_refused (size_tests ws) (word_tests ws) tt r h

  pub by_words : 0 ≡ verdict (size_tests ws) → {n : ℕ} → n ≡ verdict (word_tests ws) → n ≡ verdict (sum_tests ws)
  by_words s h = front_passed (size_tests ws) (word_tests ws) tt s h

  -- refused
  pub sum_answer_refused : (r : Refusal) → number r ≡ verdict (sum_tests ws) → remaining_outcome (Err r) ≡ sum_answer ws
  unfolding sum_answer
  sum_answer_refused r h = refused_given _ r h _

  pub sum_out_refused : (r : Refusal) → number r ≡ verdict (sum_tests ws) → sum_out ws ≡ ws
  unfolding sum_out
  sum_out_refused r h = refused_leaves _ r h _ _

  -- accepted, of a constant and of a table of a variable or more
  module _ (h : 0 ≡ verdict (sum_tests ws)) where
    pub sum_answer_constant : entries ws ≡ 1 → remaining_outcome (Ok 1) ≡ sum_answer ws
    unfolding sum_answer
    sum_answer_constant q = rw (eq-eqb (entries ws) 1 q) (accepted_given _ h _)

    pub sum_out_constant : entries ws ≡ 1 → sum_out ws ≡ ws
    unfolding sum_out
    sum_out_constant q = rw (eq-eqb (entries ws) 1 q) (accepted_leaves _ h _ _)

    pub sum_answer_summed : entries ws ≢ 1 → remaining_outcome (Ok (entries ws / 2)) ≡ sum_answer ws
    unfolding sum_answer
    sum_answer_summed q = rw (ne_eqb (entries ws) 1 q) (accepted_given _ h _)

    pub sum_out_summed : entries ws ≢ 1 → sum_out ws ≡ fixed_table Sum ws field.zero
    unfolding sum_out
    sum_out_summed q = rw (ne_eqb (entries ws) 1 q) (accepted_leaves _ h _ _)

pub ruleset sums = (
  by_sizes,
  by_words,
  sum_answer_refused,
  sum_out_refused,
  sum_answer_constant,
  sum_out_constant,
  sum_answer_summed,
  sum_out_summed,
  refused_leaves,
  accepted_leaves,
)
