-- Equality (document 01, "Points and equality"), over the operations of any ring. Assumes nothing.
use Rattle.std.specs.Prelude.{ℕ, zero, suc, ◌+◌, ◌*◌, ◌^◌, ◌/◌, ◌%◌, List, [], ◌∷◌, length}
use Rattle.algebra.specs.Ring.{Ops, minus}

-- bit j of y
abbrev pub bit : ℕ → ℕ → ℕ
bit j y = y / 2 ^ j % 2

-- the k lowest bits of y, the lowest first
unfoldable pub reverse_bits : ℕ → ℕ → ℕ
reverse_bits zero y = 0
reverse_bits (suc k) y = y % 2 * 2 ^ k + reverse_bits k (y / 2)

module _ {ℓ} {R : Type ℓ} (O : Ops R) where
  open O use {add as ◌⊕◌, mul as ◌⊗◌, zero as 𝟘, one as 𝟙}

  infixl 65 ◌⊕◌
  infixl 70 ◌⊗◌
  infixl 65 ◌⊝◌
  abbrev ◌⊝◌ : R → R → R
  ◌⊝◌ = minus O

  -- the coordinate for a 1, one minus the coordinate for a 0
  abbrev pub for_bit : ℕ → R → R
  for_bit zero z = 𝟙 ⊝ z
  for_bit (suc b) z = z

  -- eq[y]: the product over the bits of y; coordinate 0 goes with the highest bit; the empty product is 1
  unfoldable pub eq_at : List R → ℕ → R
  eq_at [] y = 𝟙
  eq_at (z ∷ zs) y = for_bit (bit (length zs) y) z ⊗ eq_at zs y

  -- the same with coordinate 0 at the lowest bit
  abbrev pub eq_lsb_at : List R → ℕ → R
  eq_lsb_at zs y = eq_at zs (reverse_bits (length zs) y)

  -- 2pq - p - q + 1: eq of one coordinate extended to another
  abbrev pub agreement : R → R → R
  agreement p q = p ⊗ q ⊕ p ⊗ q ⊝ p ⊝ q ⊕ 𝟙

  -- row v of k coordinates as a point: each bit as 0 or 1, coordinate 0 the highest
  abbrev pub as_coordinate : ℕ → R
  as_coordinate zero = 𝟘
  as_coordinate (suc b) = 𝟙

  unfoldable pub vertex_point : ℕ → ℕ → List R
  vertex_point zero v = []
  vertex_point (suc k) v = as_coordinate (bit k v) ∷ vertex_point k v
