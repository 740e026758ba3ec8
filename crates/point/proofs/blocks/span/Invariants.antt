-- From element h on each is a block. Assumes nothing.
use Rattle.point.specs.Inner.{Spanned}
use Rattle.point.proofs.blocks.span.Given as goal

abbrev pub invariant-loop-h : goal.invariant-loop-h
invariant-loop-h l = Spanned l.h l.n l.block l.fn.out l.out
