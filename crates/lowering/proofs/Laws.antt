-- What is multiplied by 2³² and by its inverse is what it was. Assumes nothing.
use Rattle.std.proofs.Common.{◌≡◌, ℕ, ◌*◌, ◌%◌, sym, refl, ap, ◌∙◌}
use Rattle.algebra.specs.Residue.{reduce, residues}
use Rattle.algebra.specs.Quartic.{quartic, constant}
use Rattle.algebra.proofs.Residues.{reduce_mod}
use Rattle.field.specs.Field.{p, p_pos, factor, field, base}
use Rattle.field.proofs.Laws.{base_mul}
use Rattle.field.specs.Inner.{unit}
use Rattle.lowering.specs.Lowering.{unit_inverse}

-- 2⁶⁴ modulo p
abbrev square : ℕ
square = 1172168163

-- X⁴ times 2³²
abbrev raised_factor : ℕ
raised_factor = 939524073

-- numbers of the same residue are the same base word
base_same : (a b : ℕ) → a % p ≡ b % p → base a ≡ base b
unfolding base
base_same a b e =
    ap (constant (residues p p_pos) (reduce p p_pos factor)) (sym (reduce_mod p p_pos a) ∙ ap (reduce p p_pos) e ∙ reduce_mod p p_pos b)

-- 2⁶⁴ divided by 2³² is 2³², and X⁴ times 2³² is X⁴
pub square_lowered : base (square * unit_inverse) ≡ base unit
square_lowered = base_same (square * unit_inverse) unit refl

pub factor_lowered : base (raised_factor * unit_inverse) ≡ base factor
factor_lowered = base_same (raised_factor * unit_inverse) factor refl

base_one : base 1 ≡ field.one
unfolding base field constant quartic residues reduce
base_one = refl

pub raised_lowered : field.mul (base unit) (base unit_inverse) ≡ field.one
raised_lowered = sym (base_mul unit unit_inverse) ∙ base_one

-- and what is multiplied by 2³² twice, and by both inverses at once
pub raised_twice : field.mul (field.mul (base unit) (base unit)) (base (unit_inverse * unit_inverse)) ≡ field.one
raised_twice =
    ap (λ x. field.mul x (base (unit_inverse * unit_inverse))) (sym (base_mul unit unit))
    ∙ sym (base_mul (unit * unit % p) (unit_inverse * unit_inverse))
    ∙ base_one
