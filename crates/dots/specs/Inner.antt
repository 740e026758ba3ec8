-- What the inner functions take and give. No operation that users call cites it. Assumes nothing.
use Rattle.std.specs.Prelude.{◌≡◌, ℕ, zero, suc, ◌+◌, ◌-◌, ◌*◌, ◌%◌, ◌^◌, ◌<◌, ◌≤◌, List, [], ◌∷◌, length, get_or}
use Rattle.field.specs.Field.{p, factor}
use Rattle.field.specs.Inner.{unit}
use Rattle.field.specs.Product.{once_at, back_at}
use Rattle.field.specs.declared.Element.{Element}
use Rattle.dots.specs.declared.halves.Halves.{Halves}
use Rattle.dots.specs.declared.quarters.Span.{Span}
use Rattle.dots.specs.Dots.{most_words}
use Rattle.dots.specs.Spans.{product_at}

-- the most numbers that halves gain: one for each word of `Dots`
abbrev pub most_gains : ℕ
most_gains = most_words

-- the sum of the low halves
unfoldable pub low : Halves → ℕ
low h = (h.all + (2 ^ 64 - h.hi % unit * unit)) % 2 ^ 64

-- what the halves stand for
unfoldable pub value : Halves → ℕ
value h = low h + unit * h.hi

-- each half is the sum of at most n halves
unfoldable pub Within : ℕ → Halves → Type 0
Within n h = (low h ≤ unit * n) × (h.hi ≤ unit * n)

-- r is h with x gained
pub record Grown (h : Halves) (x : ℕ) (r : Halves) : Type 0 where
  pub more : value r ≡ value h + x
  pub within : (n : ℕ) → Within n h → Within (n + 1) r

-- coordinate k of the sum of the first n products, not reduced
unfoldable pub coordinate : List ℕ → List ℕ → ℕ → ℕ → ℕ
coordinate weights words k zero = 0
coordinate weights words k (suc n) = coordinate weights words k n + get_or weights (4 * n + k) 0 * get_or words n 0

-- h is sums n, a sum of at most n numbers
pub record Kept (sums : ℕ → ℕ) (n : ℕ) (h : Halves) : Type 0 where
  pub is : value h ≡ sums n
  pub within : Within n h

-- the sum at k
abbrev pub at : List Halves → ℕ → Halves
at sums k = get_or sums k (record { all = 0; hi = 0 })

-- P k holds of the sum at k, for each of n
pub record Each (n : ℕ) (P : ℕ → Halves → Type 0) (sums : List Halves) : Type 0 where
  pub each : (k : ℕ) → k < n → P k (at sums k)

-- each of n sums has gained what stands at its place
pub record EachGrown (n : ℕ) (sums : List Halves) (gains : List ℕ) (grown : List Halves) : Type 0 where
  pub each : (k : ℕ) → k < n → Grown (at sums k) (get_or gains k 0) (at grown k)

-- the gains are what the four coordinates gain by word i
pub record EachGains (weights words : List ℕ) (i : ℕ) (gains : List ℕ) : Type 0 where
  pub each : (k : ℕ) → k < 4 → get_or gains k 0 ≡ get_or weights (4 * i + k) 0 * get_or words i 0

-- the four sums are those of the first n products
pub record Summed (weights words : List ℕ) (n : ℕ) (sums : List Halves) : Type 0 where
  pub there : n ≤ length words
  pub each : (k : ℕ) → k < 4 → Kept (coordinate weights words k) n (at sums k)

-- the sum of n numbers, from number a on
unfoldable pub run : (ℕ → ℕ) → ℕ → ℕ → ℕ
run f a zero = 0
run f a (suc n) = run f a n + f (a + n)

-- the sum of m numbers, from number i on, each q after the last
unfoldable pub apart : (ℕ → ℕ) → ℕ → ℕ → ℕ → ℕ
apart f q i zero = 0
apart f q i (suc m) = apart f q i m + f (i + q * m)

-- m numbers, from number i on, each q after the last, are among the first n
pub record Apart (m q i n : ℕ) : Type 0 where
  pub each : (t : ℕ) → t < m → i + q * t < n

-- coordinate k of the weight for word y, times the word
abbrev pub products : {size : ℕ} → Span size → ℕ → ℕ → ℕ
products {size} s = product_at size s.spread.now s.from s.words.now

-- the gains are what each coordinate has by number i and those q apart from it, m in all
pub record EachApart (f : ℕ → ℕ → ℕ) (m q i : ℕ) (gains : List ℕ) : Type 0 where
  pub each : (k : ℕ) → k < 4 → get_or gains k 0 ≡ apart (f k) q i m

-- the four sums are those of the first n numbers of each coordinate
pub record Spanned (f : ℕ → ℕ → ℕ) (n : ℕ) (sums : List Halves) : Type 0 where
  pub each : (k : ℕ) → k < 4 → Kept (run (f k) 0) n (at sums k)

-- no half is too great to be settled
-- A clause: each gain raises the bound by one (`Grown`), so that a type with this one could not gain.
abbrev pub Room : ℕ → List Halves → Type 0
Room n sums = Each n (λ k h. Within most_gains h) sums

-- the element of the residues
unfoldable pub settled : List Halves → Element
settled s = record { c = value (at s 0) % p ∷ value (at s 1) % p ∷ value (at s 2) % p ∷ value (at s 3) % p ∷ [] }

-- the coefficients of 1, X, .. X⁶ of x y as polynomials, not reduced: by the lines of the product, those that come back last
unfoldable pub coefficients : Element → Element → List ℕ
coefficients x y = once_at x y 0 ∷ once_at x y 1 ∷ once_at x y 2 ∷ once_at x y 3 ∷ back_at x y 0 ∷ back_at x y 1 ∷ back_at x y 2 ∷ []

-- that of X^k
abbrev pub coefficient : Element → Element → ℕ → ℕ
coefficient x y k = get_or (coefficients x y) k 0

-- the residue of what the halves stand for, the high ones times the factor
abbrev pub folded_halves : Halves → Halves → ℕ
folded_halves low high = (value low + factor * value high) % p

-- the element of the sums
unfoldable pub settled_powers : List Halves → Element
settled_powers s =
    record {
      c = folded_halves (at s 0) (at s 4) ∷ folded_halves (at s 1) (at s 5) ∷ folded_halves (at s 2) (at s 6) ∷ value (at s 3) % p ∷ [];
    }
