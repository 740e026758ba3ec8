-- Successors (document 01, "Successors"; document 02, request (f)), over the operations of any ring. Assumes nothing.
use Rattle.std.specs.Prelude.{ℕ, zero, suc, ◌-◌, ◌^◌, cond, List, [], ◌∷◌, length, eqb}
use Rattle.algebra.specs.Ring.{Ops, minus}
use Rattle.multilinear.specs.Equality.{eq_at, agreement}

-- carry, done and omega
pub record NextParts {ℓ} (R : Type ℓ) : Type ℓ where
  pub carry : R
  pub done : R
  pub omega : R

module _ {ℓ} {R : Type ℓ} (O : Ops R) where
  open O use {add as ◌⊕◌, mul as ◌⊗◌, zero as 𝟘, one as 𝟙}

  infixl 65 ◌⊕◌
  infixl 70 ◌⊗◌
  infixl 65 ◌⊝◌
  abbrev ◌⊝◌ : R → R → R
  ◌⊝◌ = minus O

  -- N - 1
  abbrev pub last_row : List R → ℕ
  last_row zs = 2 ^ length zs - 1

  -- shifted weight: 0 at row 0, eq[y-1] at row y
  abbrev pub shifted_at : List R → ℕ → R
  shifted_at zs zero = 𝟘
  shifted_at zs (suc y) = eq_at O zs y

  -- next weight: the shifted one, plus eq[N-1] at row N-1
  abbrev pub next_at : List R → ℕ → R
  next_at zs y = cond (eqb y (last_row zs)) (shifted_at zs y ⊕ eq_at O zs y) (shifted_at zs y)

  -- cyclic weight: eq[N-1] at row 0, eq[y-1] at row y
  abbrev pub cyclic_at : List R → ℕ → R
  cyclic_at zs zero = eq_at O zs (last_row zs)
  cyclic_at zs (suc y) = eq_at O zs y

  -- `eval_next`: done becomes (2st - s - t + 1)·done + (1 - s)·t·carry, carry s·(1 - t)·carry, omega s·t·omega
  abbrev pub done_step : R → R → R → R → R
  done_step s t done carry = agreement O s t ⊗ done ⊕ (𝟙 ⊝ s) ⊗ t ⊗ carry

  abbrev pub carry_step : R → R → R → R
  carry_step s t carry = s ⊗ (𝟙 ⊝ t) ⊗ carry

  abbrev pub omega_step : R → R → R → R
  omega_step s t omega = s ⊗ t ⊗ omega

  -- 1, 0, 1 for empty points; then from the last pair back to coordinate 0
  unfoldable pub eval_next : List R → List R → NextParts R
  eval_next [] ts = record { carry = 𝟙; done = 𝟘; omega = 𝟙 }
  eval_next (s ∷ ss) [] = record { carry = 𝟙; done = 𝟘; omega = 𝟙 }
  eval_next (s ∷ ss) (t ∷ ts) =
      let e = eval_next ss ts in
      record { carry = carry_step s t e.carry; done = done_step s t e.done e.carry; omega = omega_step s t e.omega }
