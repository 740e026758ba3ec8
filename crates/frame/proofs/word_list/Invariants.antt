-- The words of the bytes that are left are still to come. Assumes nothing.
use Rattle.frame.proofs.Reading.{Read}
use Rattle.frame.proofs.word_list.Given as goal

abbrev pub invariant-loop-four : goal.invariant-loop-four
invariant-loop-four l = Read l.count l.bytes l.words l.four-iterator.rest.now l.four-iterator.size
