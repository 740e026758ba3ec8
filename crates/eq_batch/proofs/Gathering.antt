-- The loop of `gather` at row i: how it starts, steps and ends. Assumes nothing.
use mathlib.Core.Path.{◌≡◌, refl, ap, ap₂, ◌∙◌}
use mathlib.Core.Bool.{false}
use Prim.Native.Nat.{ℕ, zero, suc, ◌+◌, ◌*◌, ◌≤◌, ◌<◌}
use native.Mathlib.Omega.{arith}
use mathlib.Core.List.{List, ◌∷◌}
use lib.ListN.{length, replicate, length-replicate}
use borrow.Author.Count.{below_more}
use Rattle.algebra.specs.Words.{unreduced}
use Rattle.field.specs.Field.{p, p_pos, to_words, from_words, Holds}
use Rattle.field.specs.declared.Element.{Element}
use Rattle.field.proofs.Laws.{read_back, reduced, size}
use Rattle.table.specs.Table.{get_at, put_at, element_at, elements}
use Rattle.table.specs.Refusals.{most}
use Rattle.table.proofs.Laws.{length_put, get_put_other, get_put_same}
use Rattle.eq_batch.specs.Batch.{column_from}
use Rattle.eq_batch.specs.Inner.{Gathered}
use Rattle.algebra.proofs.Words.{unreduced_zeros}
use Rattle.table.proofs.Parts.{unreduced_put}

pub record Gathering (n w j i : ℕ) (points point : List ℕ) : Type 0 where
  pub within : i ≤ n
  pub size : length point ≡ 80
  pub below : unreduced p point ≡ false
  pub at : (y : ℕ) → y < i → get_at point y ≡ to_words (element_at points (y * w + j))

pub start : (n w j : ℕ) (points : List ℕ) {point : List ℕ} → point ≡ replicate 80 0 → Gathering n w j 0 points point
start n w j points e =
    record {
      within = omega arith;
      size = ap length e ∙ length-replicate {A = ℕ} 80 0;
      below = rw e (unreduced_zeros p p_pos 80);
      at = λ y h. absurd (omega arith);
    }

module _ (n w j i : ℕ) (points point : List ℕ) (d : Gathering n w j i points point) (m : i < n) (few : n ≤ most) where
  abbrev z : Element
  z = to_words (element_at points (i * w + j))

  step : Gathering n w j (i + 1) points (put_at point i z)
  step =
      record {
        within = omega arith;
        size = length_put point i z ∙ d.size;
        below = unreduced_put point i (reduced _) d.below;
        at = below_more (λ y. get_at (put_at point i z) y ≡ to_words (element_at points (y * w + j))) i
            (λ y h. get_put_other point i z y (λ q. omega arith) ∙ d.at y h)
            (get_put_same point i z (omega (arith, d.size)) (size _));
      }

  pub turn : {e : Element} {point' : List ℕ} → Holds e (element_at points (i * w + j)) → point' ≡ put_at point i e
      → Gathering n w j (i + 1) points point'
  turn e₁ e₂ = rw (e₂, e₁.words) step

-- the elements from row a on are the rest of the column
column_of : (w j a m : ℕ) (points point : List ℕ) → ((y : ℕ) → y < a + m → get_at point y ≡ to_words (element_at points (y * w + j)))
    → elements point a m ≡ column_from points w j a m
unfolding elements column_from
column_of w j a zero points point h = refl
column_of w j a (suc m) points point h =
    ap₂ ◌∷◌ (ap from_words (h a (omega arith)) ∙ read_back _) (column_of w j (suc a) m points point (λ y b. h y (omega arith)))

pub finish : (n w j i : ℕ) (points point : List ℕ) → Gathering n w j i points point → i ≡ n → Gathered n w j points point
finish n w j i points point d q =
    record { size = d.size; below = d.below; point_is = column_of w j 0 n points point (λ y h. d.at y (omega arith)) }
