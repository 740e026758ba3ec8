-- Rows that follow each other round, the first after the last: each row's eq goes to the row that follows it. Over any commutative ring.
-- Assumes nothing.
use mathlib.Core.Path.{◌≡◌, sym, ap, ap₂, ◌∙◌}
use Prim.Native.Nat.{ℕ, suc, ◌+◌, ◌%◌, ◌^◌, ◌<◌}
use native.Mathlib.Decide.{dec_lt}
use native.Mathlib.Nat.{mod-eq_of_lt, mod_self}
use native.Mathlib.Omega.{arith}
use native.Mathlib.Numerals.{add-one}
use mathlib.Core.List.{List}
use lib.ListN.{length}
use lib.Pow.{pow_pos}
use Rattle.algebra.specs.Ring.{Ops, CommRing}
use Rattle.algebra.specs.Sum.{sum_to}
use Rattle.algebra.proofs.Ring.{zero_add}
use Rattle.algebra.proofs.Sums.{sum_ext, sum_split}
use Rattle.multilinear.specs.Equality.{eq_at}
use Rattle.multilinear.specs.Successors.{last_row, cyclic_at}

-- the row that follows
module _ (rows y : ℕ) where
  after_row : suc y < rows → (y + 1) % rows ≡ suc y
  after_row h = ap (λ n. n % rows) (add-one y) ∙ mod-eq_of_lt h

  after_last : suc y ≡ rows → (y + 1) % rows ≡ 0
  after_last q = ap (λ n. n % rows) (add-one y ∙ q) ∙ mod_self rows

module _ {ℓ} {R : Type ℓ} {O : Ops R} (𝓡 : CommRing O) where
  open 𝓡 use {add_comm}
  open O use {add as ◌⊕◌}

  infixl 65 ◌⊕◌
  -- the summands of g one place later, its last one first
  sum_round : (n : ℕ) (f g : ℕ → R) → f 0 ≡ g n → ((y : ℕ) → y < n → f (suc y) ≡ g y) → sum_to O (suc n) f ≡ sum_to O (suc n) g
  unfolding sum_to
  sum_round n f g first later =
      let count : suc n ≡ 1 + n = omega arith in
      ap (λ m. sum_to O m f) count ∙ sum_split 𝓡 n 1 f
      ∙ ap₂ ◌⊕◌ (zero_add 𝓡 (f 0) ∙ first) (sum_ext 𝓡 n _ g (λ y h. ap f (next y) ∙ later y h)) ∙ add_comm (g n) (sum_to O n g)
    where
      next : (y : ℕ) → 1 + y ≡ suc y
      next y = omega arith

  module _ (zs : List R) where
    abbrev rows : ℕ
    rows = 2 ^ length zs

    last_is : suc (last_row O zs) ≡ rows
    last_is = omega (arith, pow_pos (length zs))

    pub follows : (y : ℕ) → y < rows → cyclic_at O zs ((y + 1) % rows) ≡ eq_at O zs y
    follows y h = go (dec_lt (suc y) rows)
      where
        go : Dec (suc y < rows) → cyclic_at O zs ((y + 1) % rows) ≡ eq_at O zs y
        go (yes b) = ap (cyclic_at O zs) (after_row rows y b)
        go (no b) =
            let last : suc y ≡ rows = omega arith in
            let q : last_row O zs ≡ y = omega arith in
            ap (cyclic_at O zs) (after_last rows y last) ∙ ap (eq_at O zs) q

    -- in any sum of a g of a row and its weight
    pub round_sum : (g : ℕ → R → R)
        → sum_to O rows (λ y. g y (cyclic_at O zs y)) ≡ sum_to O rows (λ y. g ((y + 1) % rows) (eq_at O zs y))
    round_sum g =
        ap (λ n. sum_to O n (λ y. g y (cyclic_at O zs y))) (sym last_is)
        ∙ sum_round (last_row O zs) _ (λ y. g ((y + 1) % rows) (eq_at O zs y))
        (ap (λ n. g n (eq_at O zs (last_row O zs))) (sym (after_last rows (last_row O zs) last_is)))
        (λ y h. ap (λ n. g n (eq_at O zs y)) (sym (after_row rows y (omega (arith, last_is)))))
        ∙ ap (λ n. sum_to O n (λ y. g ((y + 1) % rows) (eq_at O zs y))) last_is
