-- `work::accumulate`'s loop: the blocks before block h have gained.
use Rattle.field.specs.Field.{from_words}
use Rattle.work.proofs.Accumulating.{Blocks}
use Rattle.work.proofs.accumulate.Given as goal

abbrev pub invariant-loop-h : goal.invariant-loop-h
invariant-loop-h l = Blocks l.k l.work (from_words l.given) l.fn.out l.h l.out
