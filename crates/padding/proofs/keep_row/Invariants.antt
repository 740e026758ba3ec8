-- The words before the index are kept. Assumes nothing.
use Rattle.padding.proofs.Keeping.{Keeping}
use Rattle.padding.proofs.keep_row.Given as goal

abbrev pub invariant-loop-word : goal.invariant-loop-word
invariant-loop-word l = Keeping l.inner l.fn.taken l.words l.fn.last l.place l.last l.word-index
