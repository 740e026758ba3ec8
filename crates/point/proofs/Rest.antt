-- The coordinates that a loop from the last back to coordinate 0 has passed. Assumes nothing.
use mathlib.Core.Path.{◌≡◌}
use Prim.Native.Nat.{ℕ, suc, ◌-◌, ◌≤◌, ◌<◌}
use native.Mathlib.Omega.{arith}
use mathlib.Core.List.{List, [], ◌∷◌}
use Rattle.field.specs.Field.{Ext}
use Rattle.table.specs.Table.{element_at, elements}

-- coordinates j to k - 1, those passed at j
abbrev pub rest : List ℕ → ℕ → ℕ → List Ext
rest ps k j = elements ps j (k - j)

pub rest_none : (ps : List ℕ) (k : ℕ) → rest ps k k ≡ []
unfolding elements
rest_none ps k =
    let q : k - k ≡ 0 = omega arith in
    rw q

pub rest_more : (ps : List ℕ) (k j : ℕ) → j ≤ k → 0 < j → rest ps k (j - 1) ≡ element_at ps (j - 1) ∷ rest ps k j
unfolding elements
rest_more ps k j b h =
    let q : k - (j - 1) ≡ suc (k - j) = omega arith in
    let r : suc (j - 1) ≡ j = omega arith in
    rw (q, r)

pub rest_all : (ps : List ℕ) (k j : ℕ) → j ≡ 0 → rest ps k j ≡ elements ps 0 k
rest_all ps k j z =
    let q : k - j ≡ k = omega arith in
    rw (q, z)
