-- The residues of sums of products with base words are the words of the field's sums. Assumes nothing.
use mathlib.Core.Path.{◌≡◌, refl, sym, ap, ap₂, ◌∙◌}
use Prim.Native.Nat.{ℕ, zero, suc, ◌+◌, ◌*◌, ◌%◌}
use native.Mathlib.Nat.{mul_comm, mul_assoc, mul-one, mul-mul-mul_comm, add-mul, add-zero, mod-add-mod}
use native.Mathlib.Omega.{arith}
use mathlib.Core.List.{List, [], ◌∷◌}
use lib.ListN.{length, get_or}
use Rattle.algebra.specs.Residue.{reduce, residues}
use Rattle.algebra.specs.Quartic.{quartic}
use Rattle.algebra.specs.Sum.{sum_to}
use Rattle.algebra.specs.Words.{words_of, numbers}
use Rattle.algebra.proofs.Residues.{mod_mul_mod, add_mul_mod}
use Rattle.field.specs.Field.{p, p_pos, Ext, field, base, to_words, from_words, Holds}
use Rattle.field.proofs.Laws.{holds}
use Rattle.field.proofs.Multiples.{numbers_gain}
use Rattle.table.specs.Table.{get_at, element_at}
use Rattle.dots.specs.declared.halves.Halves.{Halves}
use Rattle.field.specs.Inner.{unit}
use Rattle.lowering.specs.Lowering.{unit_inverse}
use Rattle.dots.specs.Inner.{low, value, coordinate, Summed, settled}

-- the residue of halves
pub settle_law : (h : Halves) → (low h + h.hi % p * unit) % p ≡ value h % p
unfolding value
settle_law h = ap (λ (n : ℕ). (low h + n) % p) (mul_comm (h.hi % p) unit) ∙ add_mul_mod (low h) unit h.hi p

-- what u brings, times its inverse v twice, for any modulus
twice : (u v m : ℕ) → u * v % m ≡ 1 → (lo hi : ℕ) → (lo * v % m + hi) * v % m ≡ (lo + u * hi) * (v * v) % m
twice u v m inverse lo hi =
    sym (mod_mul_mod (lo * v % m + hi) v m)
    ∙ ap (λ (n : ℕ). n * v % m) (mod-add-mod (lo * v) m hi)
    ∙ mod_mul_mod (lo * v + hi) v m
    ∙ ap (λ (n : ℕ). n % m) one
    ∙ ap (λ (n : ℕ). (lo * v * v + hi * v * n) % m) (sym inverse)
    ∙ add_mul_mod (lo * v * v) (hi * v) (u * v) m
    ∙ ap (λ (n : ℕ). n % m) both
  where
    one : (lo * v + hi) * v ≡ lo * v * v + hi * v * 1
    one = add-mul (lo * v) hi v ∙ ap (λ (n : ℕ). lo * v * v + n) (sym (mul-one (hi * v)))

    swapped : hi * v * (u * v) ≡ u * hi * (v * v)
    swapped = mul-mul-mul_comm hi v u v ∙ ap (λ (n : ℕ). n * (v * v)) (mul_comm hi u)

    both : lo * v * v + hi * v * (u * v) ≡ (lo + u * hi) * (v * v)
    both = ap₂ ◌+◌ (mul_assoc lo v v) swapped ∙ sym (add-mul lo (u * hi) (v * v))

-- the sum divided by 2³² twice
pub lowered_law : (h : Halves) → (low h * unit_inverse % p + h.hi) * unit_inverse % p ≡ value h * (unit_inverse * unit_inverse) % p
unfolding value
lowered_law h = twice unit unit_inverse p refl (low h) h.hi

module _ (weights words : List ℕ) where
  abbrev product : ℕ → Ext
  product y = field.mul (element_at weights y) (base (get_or words y 0))

  -- the element of the four coordinates of n products
  abbrev summed : ℕ → Ext
  summed n =
      numbers p p_pos (coordinate weights words 0 n) (coordinate weights words 1 n) (coordinate weights words 2 n) (coordinate weights words 3 n)

  none : summed 0 ≡ field.zero
  unfolding coordinate field numbers quartic residues
  none = refl

  more : (n : ℕ) → summed (suc n) ≡ field.add (summed n) (product n)
  unfolding coordinate from_words get_at
  more n = rw (add-zero (4 * n)) (numbers_gain _ _ _ _ _ _ _ _ (get_or words n 0))

  sum_law : (n : ℕ) → summed n ≡ sum_to field n product
  unfolding sum_to
  sum_law zero = none
  sum_law (suc n) = more n ∙ ap (λ (x : Ext). field.add x (product n)) (sum_law n)

  abbrev residue : ℕ → ℕ → ℕ
  residue n k = coordinate weights words k n % p

  -- the residues of n products' sum are its words
  pub sum_holds : (n : ℕ) → Holds (record { c = residue n 0 ∷ residue n 1 ∷ residue n 2 ∷ residue n 3 ∷ [] }) (sum_to field n product)
  unfolding to_words words_of numbers reduce
  sum_holds n = holds _ (ap to_words (sum_law n))

  pub finish : {s : List Halves} → Summed weights words (length words) s → Holds (settled s) (sum_to field (length words) product)
  unfolding settled
  finish u = rw ((u.each 0 (omega arith)).is, (u.each 1 (omega arith)).is, (u.each 2 (omega arith)).is, (u.each 3 (omega arith)).is)
      (sum_holds (length words))
