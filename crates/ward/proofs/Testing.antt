-- The words of bytes that are read by four. Assumes nothing.
use Rattle.std.proofs.Common.{◌≡◌, ◌/◌, ◌||◌, max, leb, ℕ, zero, suc, List, [], ◌∷◌, ◌++◌, length, refl, sym, ap, arith, map}
use Rattle.std.proofs.lemmas.Bool.Decides.{leb_tells}
use Rattle.std.proofs.lemmas.List.{map_push}
use Rattle.std.specs.Simd.{first_chunks}
use Rattle.algebra.specs.Words.{unreduced}
use Rattle.algebra.proofs.Words.{unreduced_push}
use Rattle.field.specs.Field.{p}
use Rattle.octets.specs.Octets.{word_of, word_at, words}

abbrev pub word : List ℕ → ℕ
word four = word_at four 0

pub by_four : (k : ℕ) (bs : List ℕ) → k ≡ length bs / 4 → map word (first_chunks 4 k bs) ≡ words bs
unfolding words
by_four zero [] h = refl
by_four zero (a ∷ []) h = refl
by_four zero (a ∷ b ∷ []) h = refl
by_four zero (a ∷ b ∷ c ∷ []) h = refl
by_four zero (a ∷ b ∷ c ∷ d ∷ bs) h = absurd (omega arith)
by_four (suc k) [] h = absurd (omega arith)
by_four (suc k) (a ∷ []) h = absurd (omega arith)
by_four (suc k) (a ∷ b ∷ []) h = absurd (omega arith)
by_four (suc k) (a ∷ b ∷ c ∷ []) h = absurd (omega arith)
by_four (suc k) (a ∷ b ∷ c ∷ d ∷ bs) h =
    let q : k ≡ length bs / 4 = omega arith in
    ap (λ (ws : List ℕ). word_of a b c d ∷ ws) (by_four k bs q)

largest_of_two : (m a b : ℕ) → leb m (max a b) ≡ leb m a || leb m b
largest_of_two m a b = grind (arith, leb_tells m (max a b), leb_tells m a, leb_tells m b)

-- four bytes more
pub one_more : (fours : List (List ℕ)) (four : List ℕ) (most : ℕ) {more : ℕ} → leb p most ≡ unreduced p (map word fours)
    → more ≡ max most (word four) → leb p more ≡ unreduced p (map word (fours ++ (four ∷ [])))
one_more fours four most e m = rw m (rw (map_push, unreduced_push) (rw (sym e) (largest_of_two p most (word four))))
