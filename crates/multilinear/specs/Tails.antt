-- Sums of the weights of the rows from some row on (document 02, request (d)), over the operations of any ring. Assumes nothing.
use Rattle.std.specs.Prelude.{ℕ, ◌+◌, ◌-◌, ◌^◌, List, length}
use Rattle.algebra.specs.Ring.{Ops}
use Rattle.algebra.specs.Sum.{sum_to}
use Rattle.multilinear.specs.declared.Weight.{Weight}
use Rattle.multilinear.specs.Folds.{weight_at}

-- weight[m] + weight[m + 1] + .. + weight[2^k - 1]; from row 2^k on there is none, and the sum is 0
unfoldable pub tail_at {ℓ} : {R : Type ℓ} → Ops R → Weight → List R → ℕ → R
tail_at O weight zs m = sum_to O (2 ^ length zs - m) (λ j. weight_at O weight zs (m + j))
