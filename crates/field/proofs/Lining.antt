-- The lines of a product: that each is the product of its two powers. Assumes nothing.
use Rattle.std.proofs.Common.{◌≡◌, ℕ, suc, ◌+◌, ◌-◌, ◌<◌, T, subst, arith}
use Rattle.algebra.specs.Residue.{reduce, residues}
use Rattle.algebra.specs.Quartic.{quartic, constant}
use Rattle.algebra.specs.Lines.{line, power}
use Rattle.algebra.proofs.Normal.{var, one}
use Rattle.algebra.proofs.Residues.{residue_ring}
use Rattle.algebra.proofs.Lines.{ticked, product_of_powers, below, every}
use Rattle.field.specs.Field.{p, p_pos, factor, field, base}
use Rattle.field.specs.Product.{ProductOfPowers}

-- a line of the sixteen, in the field: with factor 1, and with X⁴
by_one : (i j k : ℕ) → T (ticked (line i j one k)) → ProductOfPowers i j 1 k
unfolding field base residues
by_one i j k t = record { is = product_of_powers (residue_ring p p_pos) (reduce p p_pos factor) (line i j one k) t }

by_factor : (i j k : ℕ) → T (ticked (line i j (var 0) k)) → ProductOfPowers i j factor k
unfolding field base
by_factor i j k t = record { is = product_of_powers (residue_ring p p_pos) (reduce p p_pos factor) (line i j (var 0) k) t }

-- X^i·X^j is X^k where i + j is k, and X⁴·X^k where it is k + 4
pub line_once : {i j k : ℕ} → k < 4 → i + j ≡ k → ProductOfPowers i j 1 k
unfolding power quartic constant
line_once {i} {j} {k} hk e =
    subst (λ n. ProductOfPowers i n 1 k) (omega arith)
    (by_one i (k - i) k
    (every (suc k) (λ i. ticked (line i (k - i) one k)) (every 4 (λ k. below (suc k) (λ i. ticked (line i (k - i) one k))) tt k hk) i (omega arith)))

pub line_back : {i j k : ℕ} → i < 4 → j < 4 → i + j ≡ k + 4 → ProductOfPowers i j factor k
unfolding power quartic constant
line_back {i} {j} {k} hi hj e =
    subst (λ n. ProductOfPowers i n factor k) (omega arith)
    (by_factor i (k + 4 - i) k
    (every i (λ k. ticked (line i (k + 4 - i) (var 0) k)) (every 4 (λ i. below i (λ k. ticked (line i (k + 4 - i) (var 0) k))) tt i hi) k (omega arith)))
