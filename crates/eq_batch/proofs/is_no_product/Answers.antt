-- count is n w, for w above 0, exactly if w divides it n times. Assumes nothing.
use mathlib.Core.Path.{◌≡◌, refl, sym, ap, ◌∙◌}
use mathlib.Core.Bool.{Bool, true, false, not}
use mathlib.Core.Logic.{◌≢◌}
use Prim.Native.Nat.{ℕ, ◌*◌, ◌/◌, ◌%◌, ◌<◌}
use native.Mathlib.Nat.{mul-zero, mul-mod_left, div-add-mod', div-eq_of_eq-mul_left}
use native.Mathlib.Omega.{arith}
use borrow.Author.Tests.{eqb-true, eqb-false, eq-eqb, ne_eqb}
use lib.Dec.{eqb}
use Rattle.eq_batch.proofs.is_no_product.Goals as goal

divided : (count n w : ℕ) → 0 < w → count % w ≡ 0 → eqb (count / w) n ≡ eqb count (n * w)
divided count n w pos d = go (eqb (count / w) n) refl
  where
    go : (b : Bool) → eqb (count / w) n ≡ b → b ≡ eqb count (n * w)
    go true e = sym (eq-eqb count (n * w) (omega (arith, div-add-mod' count w, ap (λ q. q * w) (eqb-true (count / w) n e))))
    go false e = sym (ne_eqb count (n * w) (λ q. eqb-false (count / w) n e (div-eq_of_eq-mul_left pos q)))

pub returns-then-w-eq0 : goal.returns-then-w-eq0
returns-then-w-eq0 c = rw (c.if-w-eq0.true, mul-zero)

pub returns-then-count-w-ne0 : goal.returns-then-count-w-ne0
returns-then-count-w-ne0 c =
    let d : c.args.count ≢ c.args.n * c.args.w = λ e. c.if-count-w-ne0.true (ap (λ x. x % c.args.w) e ∙ mul-mod_left _ _) in
    sym (ap not (ne_eqb _ _ d))

pub returns : goal.returns
returns c = ap not (divided c.args.count c.args.n c.args.w (omega arith) (omega arith))
