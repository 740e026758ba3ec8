-- What the tests say of words: element by element, and of their count. Assumes nothing.
use mathlib.Core.Path.{◌≡◌, refl}
use mathlib.Core.Bool.{Bool, true, false, not, ◌||◌}
use Prim.Native.Nat.{ℕ, zero, suc, ◌+◌, ◌*◌, ◌%◌, ◌<◌}
use native.Mathlib.Omega.{arith}
use mathlib.Core.List.{List}
use lib.Dec.{eqb}
use lib.ListN.{length, get_or}
use borrow.Author.Tests.{eqb-true, not-false, lt-leb}
use Rattle.algebra.specs.Words.{words_of, unreduced}
use Rattle.algebra.proofs.Words.{below, unreduced_append, words_reduced}
use Rattle.field.specs.Field.{p, p_pos, Ext, Reduced, Holds}
use Rattle.field.specs.declared.Element.{Element}
use Rattle.field.proofs.Laws.{holds_again}
use Rattle.table.specs.Table.{table_words, get_at, element_at, entries}
use Rattle.table.specs.Refusals.{splits}

-- 5 does not hold: each element is reduced
pub reduced_at : (ws : List ℕ) → unreduced p ws ≡ false → (i : ℕ) → Reduced (get_at ws i)
unfolding get_at unreduced
reduced_at ws h i =
    let b : (j : ℕ) → get_or ws j 0 < p = below p ws h p_pos in
    record { words_below = rw (lt-leb p _ (b (4 * i)), lt-leb p _ (b (4 * i + 1)), lt-leb p _ (b (4 * i + 2)), lt-leb p _ (b (4 * i + 3))) }

pub holds_at : (ws : List ℕ) → unreduced p ws ≡ false → (i : ℕ) {e : Element} → e ≡ get_at ws i → Holds e (element_at ws i)
unfolding get_at
holds_at ws h i q = rw q (holds_again (get_at ws i) refl (reduced_at ws h i))

-- a table's words are reduced
pub unreduced_table : (n : ℕ) (f : ℕ → Ext) → unreduced p (table_words n f) ≡ false
unfolding table_words unreduced
unreduced_table zero f = refl
unreduced_table (suc n) f =
    unreduced_append p (words_of (f 0)) (table_words n (λ i. f (suc i))) (words_reduced (f 0)) (unreduced_table n (λ i. f (suc i)))

-- 1 does not hold: the words are four to an element
pub whole : (ws : List ℕ) → splits ws ≡ false → 4 * entries ws ≡ length ws
whole ws h =
    let w : length ws % 4 ≡ 0 = eqb-true (length ws % 4) 0 (not-false (eqb (length ws % 4) 0) h) in
    omega arith

-- 4 does not hold
pub same : (a b : ℕ) → not (eqb a b) ≡ false → a ≡ b
same a b h = eqb-true a b (not-false (eqb a b) h)

-- neither of two conditions holds
pub or_none : (a b : Bool) → a || b ≡ false → (a ≡ false) × (b ≡ false)
or_none true b h = absurd (let z : ◌≡◌ {A = ℕ} 0 1 = cc in omega arith)
or_none false b h = (refl, h)
