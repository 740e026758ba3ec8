-- The product of the extension as sixteen lines, one for each pair of powers of X, and what holds of them over any ring and any w = X⁴.
-- Assumes nothing.
use Rattle.std.specs.Prelude.{◌≡◌, Bool, true, false, cond, not, ◌&&◌, ℕ, zero, suc, ◌+◌, ◌*◌, ◌<◌, List, [], ◌∷◌, eqb, length}
use Rattle.algebra.specs.Ring.{Ops}
use Rattle.algebra.specs.Quartic.{Quartic, quartic, constant}

-- a line: X^i·X^j is factor·X^power
pub record Line {ℓ} (F : Type ℓ) : Type ℓ where
  pub i : ℕ
  pub j : ℕ
  pub factor : F
  pub power : ℕ

abbrev pub line {ℓ} : {F : Type ℓ} → ℕ → ℕ → F → ℕ → Line F
line i j f k = record { i = i; j = j; factor = f; power = k }

-- the lines, by the power that they give
unfoldable pub lines {ℓ} : {F : Type ℓ} → F → F → List (Line F)
lines one w =
    line 0 0 one 0
    ∷ line 1 3 w 0
    ∷ line 2 2 w 0
    ∷ line 3 1 w 0
    ∷ line 0 1 one 1
    ∷ line 1 0 one 1
    ∷ line 2 3 w 1
    ∷ line 3 2 w 1
    ∷ line 0 2 one 2
    ∷ line 1 1 one 2
    ∷ line 2 0 one 2
    ∷ line 3 3 w 2
    ∷ line 0 3 one 3
    ∷ line 1 2 one 3
    ∷ line 2 1 one 3
    ∷ line 3 0 one 3
    ∷ []

-- how many lines have the pair of powers i, j
unfoldable pub count {ℓ} : {F : Type ℓ} → ℕ → ℕ → List (Line F) → ℕ
count i j [] = 0
count i j (l ∷ ls) = cond (eqb l.i i && eqb l.j j) 1 0 + count i j ls

-- P holds of every line
unfoldable pub Each {ℓ} : {F : Type ℓ} → (Line F → Type ℓ) → List (Line F) → Type ℓ
Each P [] = Unit
Each P (l ∷ ls) = P l × Each P ls

-- the sum of t i j over the lines that give X^k: by 1, or by w where `back` says so
unfoldable pub gather {ℓ} : {A : Type ℓ} → (A → A → A) → A → (ℕ → ℕ → A) → Bool → ℕ → List (Line Bool) → A
gather add nought t back k [] = nought
gather add nought t back k (l ∷ ls) =
    cond (eqb l.power k && cond back l.factor (not l.factor))
    (add (t l.i l.j) (gather add nought t back k ls))
    (gather add nought t back k ls)

-- of numbers: the products of a's and b's
abbrev pub sums : Bool → ℕ → (ℕ → ℕ) → (ℕ → ℕ) → ℕ
sums back k a b = gather ◌+◌ 0 (λ i j. a i * b j) back k (lines false true)

module _ {ℓ} {A : Type ℓ} (O : Ops A) (w : A) where
  open O use {add as ◌⊕◌, mul as ◌⊗◌, zero as 𝟘, one as 𝟙}

  infixl 65 ◌⊕◌
  infixl 70 ◌⊗◌
  -- the extension, and its X
  abbrev K : Ops (Quartic A)
  K = quartic O w

  abbrev pub X : Quartic A
  X = record { x₀ = 𝟘; x₁ = 𝟙; x₂ = 𝟘; x₃ = 𝟘 }

  -- X^n
  unfoldable pub power : ℕ → Quartic A
  power zero = K.one
  power (suc n) = K.mul (power n) X

  -- the coordinate of X^i
  abbrev pub coordinate : Quartic A → ℕ → A
  coordinate a zero = a.x₀
  coordinate a (suc zero) = a.x₁
  coordinate a (suc (suc zero)) = a.x₂
  coordinate a (suc (suc (suc n))) = a.x₃

  -- the element of four coordinates
  abbrev pub element : (ℕ → A) → Quartic A
  element a = record { x₀ = a 0; x₁ = a 1; x₂ = a 2; x₃ = a 3 }

  -- a line is the product of its two powers
  abbrev pub ProductOfPowers : Line A → Type ℓ
  ProductOfPowers l = K.mul (power l.i) (power l.j) ≡ K.mul (constant O w l.factor) (power l.power)

  -- what the lines make of a and b: the sum of factor·aᵢ·bⱼ·X^power
  unfoldable pub sum_of : Quartic A → Quartic A → List (Line A) → Quartic A
  sum_of a b [] = K.zero
  sum_of a b (l ∷ ls) =
      K.add (K.mul (constant O w (l.factor ⊗ (coordinate a l.i ⊗ coordinate b l.j))) (power l.power)) (sum_of a b ls)

  -- the coordinate of X^k by the lines that give it, read as a row: aᵢ times bⱼ where the factor is 1, and times dⱼ where it is w
  abbrev pub row : (ℕ → A) → (ℕ → A) → (ℕ → A) → ℕ → A
  row a b d k =
      gather ◌⊕◌ 𝟘 (λ i j. a i ⊗ b j) false k (lines false true) ⊕ gather ◌⊕◌ 𝟘 (λ i j. a i ⊗ d j) true k (lines false true)

  pub record LineLaws : Type ℓ where
    -- X⁴ = w
    pub fourth : power 4 ≡ constant O w w
    -- each line is the product of its two powers
    pub each : Each ProductOfPowers (lines 𝟙 w)
    -- each pair of powers has one line
    pub once : (i j : ℕ) → i < 4 → j < 4 → count i j (lines 𝟙 w) ≡ 1
    pub sixteen : length (lines 𝟙 w) ≡ 16
    -- the product is the sum of the lines
    pub sum : (a b : Quartic A) → sum_of a b (lines 𝟙 w) ≡ K.mul a b
    -- and its coordinates are their rows: a matrix that has in row k, at place i, the bⱼ of the line that gives X^k, times its factor
    pub rows : (a b : ℕ → A) → K.mul (element a) (element b) ≡ element (row a b (λ j. b j ⊗ w))
