-- The laws of `first_words`. Assumes nothing.
use mathlib.Core.Path.{◌≡◌, refl, sym, ap, ◌∙◌}
use mathlib.Core.Bool.{false}
use Prim.Native.Nat.{ℕ, zero, suc, ◌+◌, ◌≤◌, ◌<◌}
use native.Mathlib.Nat.{zero-add, suc-add}
use native.Mathlib.Omega.{arith}
use mathlib.Core.List.{List, ◌∷◌, ◌++◌}
use lib.ListN.{length, get_or, take, drop}
use lib.Seq.{ext_get_or}
use Rattle.algebra.specs.Words.{unreduced}
use Rattle.algebra.proofs.Words.{unreduced_cons}
use Rattle.table.proofs.Parts.{part_length, part_word}
use Rattle.byte_fold.specs.Inner.{first_words}

pub first_length : (n : ℕ) (f : ℕ → ℕ) → length (first_words n f) ≡ n
unfolding first_words
first_length zero f = refl
first_length (suc n) f = ap suc (first_length n (λ i. f (suc i)))

pub first_at : (n : ℕ) (f : ℕ → ℕ) (i : ℕ) → i < n → get_or (first_words n f) i 0 ≡ f i
unfolding first_words
first_at zero f i h = absurd (omega arith)
first_at (suc n) f zero h = refl
first_at (suc n) f (suc i) h = first_at n (λ i. f (suc i)) i (omega arith)

-- n words that are those of f
pub first_of : (n : ℕ) (f : ℕ → ℕ) (ws : List ℕ) → length ws ≡ n → ((i : ℕ) → i < n → get_or ws i 0 ≡ f i) → ws ≡ first_words n f
first_of n f ws l h =
    ext_get_or 0 ws (first_words n f) (l ∙ sym (first_length n f))
    (λ i b. let c : i < n = omega arith in h i c ∙ sym (first_at n f i c))

pub first_ext : (n : ℕ) (f g : ℕ → ℕ) → ((i : ℕ) → i < n → f i ≡ g i) → first_words n f ≡ first_words n g
first_ext n f g h = first_of n g (first_words n f) (first_length n f) (λ i b. first_at n f i b ∙ h i b)

-- n words lent from word a on
pub first_part : (a n : ℕ) (f : ℕ → ℕ) (ws : List ℕ) → a + n ≤ length ws → ((i : ℕ) → i < n → get_or ws (a + i) 0 ≡ f i)
    → take n (drop a ws) ≡ first_words n f
first_part a n f ws l h =
    first_of n f (take n (drop a ws)) (part_length a n ws l) (λ i b. part_word a n ws i b ∙ h i b)

-- m words and then n
pub first_append : (m n : ℕ) (f : ℕ → ℕ) → first_words (m + n) f ≡ first_words m f ++ first_words n (λ i. f (m + i))
unfolding first_words
first_append zero n f = rw (zero-add n) (first_ext n f (λ i. f (0 + i)) (λ i h. ap f (sym (zero-add i))))
first_append (suc m) n f =
    rw (suc-add m n)
    (ap (λ ws. f 0 ∷ ws)
    (first_append m n (λ i. f (suc i))
    ∙ ap (λ ws. first_words m (λ i. f (suc i)) ++ ws) (first_ext n _ (λ i. f (suc m + i)) (λ i h. ap f (sym (suc-add m i))))))

pub first_below : (p n : ℕ) (f : ℕ → ℕ) → ((i : ℕ) → f i < p) → unreduced p (first_words n f) ≡ false
unfolding first_words unreduced
first_below p zero f h = refl
first_below p (suc n) f h = unreduced_cons p (f 0) (first_words n (λ i. f (suc i))) (h 0) (first_below p n (λ i. f (suc i)) (λ i. h (suc i)))
