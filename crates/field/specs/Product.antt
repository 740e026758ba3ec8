-- The lines of a product, on words. No operation that users call cites it. Assumes nothing.
use Rattle.std.specs.Prelude.{◌≡◌, ℕ, ◌+◌, true, false, cond, ◌==◌}
use Rattle.algebra.specs.Residue.{reduce, residues}
use Rattle.algebra.specs.Lines.{power, sums}
use Rattle.field.specs.declared.Element.{Element}
use Rattle.field.specs.declared.sums.Sums.{Sums}
use Rattle.field.specs.Field.{p, p_pos, factor, Ext, field, base, at}

-- X^n
abbrev pub power_of : ℕ → Ext
power_of n = power (residues p p_pos) (reduce p p_pos factor) n

-- the line X^i·X^j = f·X^k holds
pub record ProductOfPowers (i j f k : ℕ) : Type 0 where
  pub is : field.mul (power_of i) (power_of j) ≡ field.mul (base f) (power_of k)

-- r is s with a line's product, gained by the sum of its factor
pub record Lined (n f : ℕ) (s r : Sums) : Type 0 where
  pub once : r.once ≡ s.once + cond (f == 1) n 0
  pub back : r.back ≡ s.back + cond (f == 1) 0 n

-- the words of x times those of y, summed over the lines that give X^k: those with factor 1, and those that come back
unfoldable pub once_at : Element → Element → ℕ → ℕ
once_at x y k = sums false k (at x) (at y)

unfoldable pub back_at : Element → Element → ℕ → ℕ
back_at x y k = sums true k (at x) (at y)

-- s has the sums of the lines that give X^k, where `back` stands for y in those that come back
pub record Gathered (x y back : Element) (k : ℕ) (s : Sums) : Type 0 where
  pub once_is : s.once ≡ once_at x y k
  pub back_is : s.back ≡ back_at x back k
