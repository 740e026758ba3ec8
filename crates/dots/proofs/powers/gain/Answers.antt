-- `dots::powers::gain` meets its contract: what each sum gains is what the lines of its power give. Assumes nothing.
use Rattle.std.proofs.Common.{List, [], ◌∷◌, get_or}
use Rattle.dots.specs.declared.halves.Halves.{Halves}
use Rattle.dots.specs.Inner.{Grown, at, coefficients}
use Rattle.dots.proofs.Arrays.{seven}
use Rattle.dots.proofs.powers.gain.Goals as goal

pub returns : goal.returns
unfolding coefficients
returns c =
    let r : List Halves =
    c.gain-s0.result ∷ c.gain-s1.result ∷ c.gain-s2.result ∷ c.gain-s3.result ∷ c.gain-s4.result ∷ c.gain-s5.result
    ∷ c.gain-s6.result ∷ [] in
    record {
      each = seven (λ k. Grown (at c.args.sums k) (get_or (coefficients c.args.x c.args.y) k 0) (at r k))
          (rw c.lines-at0.ensures.once_is at c.gain-s0.ensures)
          (rw c.lines-at1.ensures.once_is at c.gain-s1.ensures)
          (rw c.lines-at2.ensures.once_is at c.gain-s2.ensures)
          (rw c.lines-at3.ensures.once_is at c.gain-s3.ensures)
          (rw c.lines-at0.ensures.back_is at c.gain-s4.ensures)
          (rw c.lines-at1.ensures.back_is at c.gain-s5.ensures)
          (rw c.lines-at2.ensures.back_is at c.gain-s6.ensures);
    }
