-- Division by u modulo m, by products and by the parts of numbers at u alone (Montgomery's reduction), for any u and m: v is an inverse of
-- m modulo u, and w one of u modulo m. Assumes nothing.
use Prim.Native.Nat.{ℕ, ◌+◌, ◌*◌, ◌-◌, ◌/◌, ◌%◌, ◌<◌, ◌≤◌}
use mathlib.Core.Path.{◌≡◌, sym, ◌∙◌, ap}
use native.Mathlib.Nat.{mul_comm, mul_assoc, mul-one, mul-le-mul_left, mul-lt-mul_of_pos_right, mod-lt, mod-mod, mod-eq_of_lt, add-mul-mod_self_right, mod-add-div', div-lt_iff_lt-mul}
use native.Mathlib.Omega.{arith}
use Rattle.algebra.proofs.Residues.{mod_mul_mod, mul_mod_mod, add_mod_cancel}

-- the number below u whose product with m ends as n does
abbrev pub digit : ℕ → ℕ → ℕ → ℕ
digit u v n = n % u * v % u

module _ (u m : ℕ) (pos : 0 < m) where
  module _ (v : ℕ) (inverse : m * v % u ≡ 1) (n : ℕ) where
    ends : digit u v n * m % u ≡ n % u
    ends =
        mod_mul_mod (n % u * v) m u
        ∙ ap (λ k. k % u) (mul_assoc (n % u) v m ∙ ap (λ k. n % u * k) (mul_comm v m))
        ∙ sym (mul_mod_mod (n % u) (m * v) u)
        ∙ ap (λ k. n % u * k % u) inverse
        ∙ ap (λ k. k % u) (mul-one (n % u))
        ∙ mod-mod n u

    -- so the difference of what both have above u, times u, is n less a multiple of m
    pub lowers : (r : ℕ) → (r + digit u v n * m / u) % m ≡ n / u % m → r * u % m ≡ n % m
    lowers r e =
        add_mod_cancel m pos (digit u v n * m / u * u) (r * u) n
        (ap (λ k. k % m) (sym (swap (digit u v n * m / u) r))
        ∙ sym (mod_mul_mod (r + digit u v n * m / u) u m)
        ∙ ap (λ k. k * u % m) e
        ∙ mod_mul_mod (n / u) u m
        ∙ sym (add-mul-mod_self_right (n / u * u) (digit u v n) m)
        ∙ ap (λ k. k % m) same)
      where
        swap : (a b : ℕ) → (b + a) * u ≡ a * u + b * u
        swap a b = omega arith

        same : n / u * u + digit u v n * m ≡ digit u v n * m / u * u + n
        same = omega (arith, ends, mod-add-div' n u, mod-add-div' (digit u v n * m) u)

  module _ (fits : 2 * m ≤ u) where
    -- both are small: that of n, where n is at most four products, and that of the multiple
    pub high_below : (n : ℕ) → n ≤ 4 * ((m - 1) * (m - 1)) → n / u < m + m
    high_below n h =
        (div-lt_iff_lt-mul {k = u} (omega arith)).1
        (omega (arith, mul-le-mul_left {m = m - 1} {n = m} (m - 1) (omega arith), mul-lt-mul_of_pos_right {m = m - 1} {n = m} {k = m} (omega arith) pos, mul-le-mul_left (2 * m) fits))

    pub multiple_below : (v n : ℕ) → digit u v n * m / u < m
    multiple_below v n =
        (div-lt_iff_lt-mul {k = u} (omega arith)).1
        (omega (arith, mul-lt-mul_of_pos_right {m = digit u v n} {n = u} {k = m} (mod-lt (n % u * v) (omega arith)) pos))

  -- one number below m alone is that
  pub lowered : (w : ℕ) → u * w % m ≡ 1 → (r n : ℕ) → r < m → r * u % m ≡ n % m → r ≡ n * w % m
  lowered w inverse r n h e =
      sym (mod-eq_of_lt h)
      ∙ ap (λ k. k % m) (sym (mul-one r))
      ∙ ap (λ k. r * k % m) (sym inverse)
      ∙ mul_mod_mod r (u * w) m
      ∙ ap (λ k. k % m) (sym (mul_assoc r u w))
      ∙ sym (mod_mul_mod (r * u) w m)
      ∙ ap (λ k. k * w % m) e
      ∙ mod_mul_mod n w m
