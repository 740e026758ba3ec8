-- A sum kept modulo 2⁶⁴ beside the sum of its high halves: what its low halves are, and what they gain. Assumes nothing.
use Rattle.std.proofs.Common.{◌≡◌, ℕ, ◌+◌, ◌-◌, ◌*◌, ◌/◌, ◌%◌, ◌^◌, ◌<◌, ◌≤◌, sym, ap, ◌∙◌, arith}
use native.Mathlib.Nat.{mod-le, mod-mod, mod-eq_of_lt, mod-add-mod, add-mod-mod, add-mod_right, add-mul-mod_self_right}
use Rattle.algebra.proofs.Residues.{add_mod_cancel}
use Rattle.field.specs.Inner.{unit}
use Rattle.dots.specs.declared.halves.Halves.{Halves}
use Rattle.dots.specs.Inner.{low, value, Within, Grown, most_gains}

abbrev wrap : ℕ
wrap = 2 ^ 64

-- what was taken off modulo m, added again
restored : (m a c : ℕ) → c ≤ m → (c + (a + (m - c)) % m) % m ≡ a % m
restored m a c h =
    let q : c + (a + (m - c)) ≡ a + m = omega arith in
    add-mod-mod c (a + (m - c)) m ∙ ap (λ n. n % m) q ∙ add-mod_right a m

-- the low halves' sum and the high halves' are the whole
low_law : (h : Halves) → (h.hi * unit + low h) % wrap ≡ h.all % wrap
unfolding low
low_law h =
    let high : ℕ = h.hi % unit * unit in
    let q : h.hi * unit + low h ≡ high + low h + h.hi / unit * wrap = omega arith in
    ap (λ n. n % wrap) q ∙ add-mul-mod_self_right (high + low h) (h.hi / unit) wrap ∙ restored wrap h.all high (omega arith)

module _ (h : Halves) (x : ℕ) where
  -- h with x gained
  abbrev more : Halves
  more = record { all = (h.all + x) % wrap; hi = h.hi + x / unit }

  low_gained : low more ≡ (low h + x % unit) % wrap
  unfolding low
  low_gained =
      let q : more.hi * unit + (low h + x % unit) ≡ h.hi * unit + low h + x = omega arith in
      sym (mod-mod _ wrap)
      ∙ add_mod_cancel wrap (omega arith) (more.hi * unit) (low more) (low h + x % unit)
      (low_law more ∙ mod-mod (h.all + x) wrap
      ∙ sym
      (ap (λ n. n % wrap) q ∙ sym (mod-add-mod (h.hi * unit + low h) wrap x) ∙ ap (λ n. (n + x) % wrap) (low_law h)
      ∙ mod-add-mod h.all wrap x))

  pub grown : x < wrap → Within most_gains h → Grown h x more
  unfolding Within value
  grown b w =
      let fits : low h + x % unit < wrap = omega (arith, w) in
      let most : (low h + x % unit) % wrap ≤ low h + x % unit = mod-le _ _ in
      record {
        more = omega (arith, low_gained ∙ mod-eq_of_lt fits);
        within = λ n v. (omega (arith, v, low_gained, most), omega (arith, b, v));
      }
