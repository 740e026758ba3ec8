-- The products of the first t words. Assumes nothing.
use Rattle.std.proofs.Common.{◌≡◌, ◌+◌, ◌-◌, ◌*◌, ◌≤◌}
use Rattle.field.specs.Field.{p}
use Rattle.kernel.specs.Inner.{word_at, products}
use Rattle.kernel.proofs.steps.products.Given as goal

abbrev pub invariant-loop-t : goal.invariant-loop-t
invariant-loop-t g l = record {
  value : l.sum ≡ l.fn.old + products l.weights l.k (word_at l.words l.at) l.t;
  few : l.sum ≤ l.fn.old + l.t * ((p - 1) * (p - 1));
}
