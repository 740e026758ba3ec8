-- The sums of `dot_few`: what they are at the start, and what they gain. Those of at most four products fit a u64. Assumes nothing.
use mathlib.Core.Path.{◌≡◌, refl, sym, ap₂, ◌∙◌}
use Prim.Native.Nat.{ℕ, zero, suc, ◌+◌, ◌-◌, ◌*◌, ◌%◌, ◌^◌, ◌≤◌, ◌<◌}
use native.Mathlib.Nat.{mul-le-mul, mul-le-mul_right}
use native.Mathlib.Numerals.{add-one}
use native.Mathlib.Omega.{arith}
use mathlib.Core.List.{List, [], ◌∷◌}
use lib.ListN.{length, get_or}
use Rattle.algebra.specs.Sum.{sum_to}
use Rattle.field.specs.Field.{p, field, base, Holds}
use Rattle.table.specs.Table.{element_at}
use Rattle.dots.specs.Dots.{Dots}
use Rattle.dots.specs.Inner.{coordinate, EachGains}
use Rattle.dots.proofs.Summing.{both_below}
use Rattle.dots.proofs.Settling.{sum_holds}

-- the largest product
abbrev pub largest : ℕ
largest = (p - 1) * (p - 1)

module _ (weights words : List ℕ) where
  -- the four sums are those of the first i products
  pub record Few (i : ℕ) (sums : List ℕ) : Type 0 where
    pub there : i ≤ length words
    pub each : (k : ℕ) → k < 4 → get_or sums k 0 ≡ coordinate weights words k i

  pub start : Few 0 (0 ∷ 0 ∷ 0 ∷ 0 ∷ [])
  unfolding coordinate
  start = record { there = omega arith; each = none }
    where
      zeros : List ℕ
      zeros = 0 ∷ 0 ∷ 0 ∷ 0 ∷ []

      none : (k : ℕ) → k < 4 → get_or zeros k 0 ≡ 0
      none zero l = refl
      none (suc zero) l = refl
      none (suc (suc zero)) l = refl
      none (suc (suc (suc zero))) l = refl
      none (suc (suc (suc (suc k)))) l = absurd (omega arith)

  module _ {i : ℕ} {sums : List ℕ} (u : Few i sums) (h : i < length words) where
    -- one product more
    next : (k : ℕ) → coordinate weights words k (i + 1) ≡ coordinate weights words k i + get_or weights (4 * i + k) 0 * get_or words i 0
    unfolding coordinate
    next k = rw add-one refl

    pub turn : {xs more : List ℕ} → EachGains weights words i xs
        → ((k : ℕ) → k < 4 → get_or more k 0 ≡ get_or sums k 0 + get_or xs k 0) → Few (i + 1) more
    turn e m = record { there = omega arith; each = λ k l. m k l ∙ ap₂ ◌+◌ (u.each k l) (e.each k l) ∙ sym (next k) }

    module _ (d : Dots weights words) where
      product_bound : (j i : ℕ) → get_or weights j 0 * get_or words i 0 ≤ largest
      product_bound j i =
          let b = both_below d j i in
          mul-le-mul {n₂ = p - 1} {m₂ = p - 1} (omega (arith, b.0)) (omega (arith, b.1))

      bound : (k n : ℕ) → coordinate weights words k n ≤ n * largest
      unfolding coordinate
      bound k zero = omega arith
      bound k (suc n) = omega (arith, bound k n, product_bound (4 * n + k) n)

      -- a sum fits, with what it gains
      pub fits : {xs : List ℕ} → length words ≤ 4 → EachGains weights words i xs → (k : ℕ) → k < 4
          → get_or sums k 0 + get_or xs k 0 < 2 ^ 64
      fits few e k l =
          let m : (i + 1) * largest ≤ 4 * largest = mul-le-mul_right {n = 4} largest (omega arith) in
          omega (arith, u.each k l, e.each k l, next k, bound k (i + 1))

  -- the residues of the sums of all words are those of their sum
  pub few_holds : {sums : List ℕ} → Few (length words) sums
      → Holds (record { c = get_or sums 0 0 % p ∷ get_or sums 1 0 % p ∷ get_or sums 2 0 % p ∷ get_or sums 3 0 % p ∷ [] })
      (sum_to field (length words) (λ y. field.mul (element_at weights y) (base (get_or words y 0))))
  few_holds u =
      rw (u.each 0 (omega arith), u.each 1 (omega arith), u.each 2 (omega arith), u.each 3 (omega arith))
      (sum_holds weights words (length words))
