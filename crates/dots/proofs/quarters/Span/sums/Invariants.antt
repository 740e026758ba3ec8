-- The loop of `Span::sums`.
use Rattle.dots.specs.Inner.{products}
use Rattle.dots.proofs.Columns.{Begun}
use Rattle.dots.proofs.quarters.Span.sums.Given as goal

abbrev pub invariant-loop-j : goal.invariant-loop-j
invariant-loop-j g l =
    Begun (products l.self) l.q l.start g.row.M l.j l.all
