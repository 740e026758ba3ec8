-- A product with a base word gained, coordinate by coordinate. Assumes nothing.
use Rattle.std.proofs.Common.{◌≡◌, ℕ, ◌+◌, ◌*◌, ap, ◌∙◌}
use Rattle.algebra.specs.Words.{numbers}
use Rattle.algebra.proofs.Numbers.{numbers_add, numbers_scale}
use Rattle.field.specs.Field.{p, p_pos, factor, field, base}

pub numbers_gain : (a0 a1 a2 a3 b0 b1 b2 b3 w : ℕ) → numbers p p_pos (a0 + b0 * w) (a1 + b1 * w) (a2 + b2 * w) (a3 + b3 * w)
    ≡ field.add (numbers p p_pos a0 a1 a2 a3) (field.mul (numbers p p_pos b0 b1 b2 b3) (base w))
unfolding field base
numbers_gain a0 a1 a2 a3 b0 b1 b2 b3 w =
    numbers_add p p_pos factor a0 a1 a2 a3 (b0 * w) (b1 * w) (b2 * w) (b3 * w)
    ∙ ap (field.add (numbers p p_pos a0 a1 a2 a3)) (numbers_scale p p_pos factor b0 b1 b2 b3 w 0 0 0)
