-- The loop of `Span::gain`.
use Rattle.std.proofs.Common.{◌≡◌, ◌-◌, ◌*◌, ◌≤◌}
use Rattle.field.specs.Field.{p}
use Rattle.dots.specs.Inner.{apart, products}
use Rattle.dots.proofs.quarters.Span.gain.Given as goal

abbrev pub invariant-loop-t : goal.invariant-loop-t
invariant-loop-t g l = record {
  sum_is : l.sum ≡ apart (products l.self l.k) l.q l.i l.t;
  fits : l.sum ≤ l.t * ((p - 1) * (p - 1));
}
