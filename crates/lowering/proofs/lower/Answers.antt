-- `lowering::lower` meets its contract, by the laws of division by 2³² at the field's constants. Assumes nothing.
use Rattle.std.proofs.Common.{ℕ, sym, refl, ◌∙◌, arith}
use native.Mathlib.Nat.{add-mod_right}
use Rattle.algebra.proofs.Lowering.{lowers, lowered, high_below, multiple_below}
use Rattle.field.specs.Field.{p, p_pos}
use Rattle.field.specs.Inner.{unit}
use Rattle.lowering.specs.Lowering.{unit_inverse}
use Rattle.lowering.proofs.lower.Goals as goal

-- p · inverse is 1 modulo 2³²
abbrev inverse : ℕ
inverse = 2281701377

pub less-requires : goal.less-requires
less-requires c = (high_below unit p p_pos (omega arith) _ c.requires, omega arith)

pub less-requires-2 : goal.less-requires-2
less-requires-2 c =
    let below = multiple_below unit p p_pos (omega arith) inverse c.args.n in
    (omega (arith, c.less.ensures.0), omega (arith, below))

pub returns : goal.returns
returns c =
    lowered unit p p_pos unit_inverse refl _ _
    c.less-2.ensures.0
    (lowers unit p p_pos inverse refl _ _ (c.less-2.ensures.1 ∙ sym (add-mod_right _ p) ∙ c.less.ensures.1))
