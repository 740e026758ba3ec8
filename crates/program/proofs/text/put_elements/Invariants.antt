-- The lines of the elements that are left are still to come. Assumes nothing.
use Rattle.program.proofs.Texts.{Left}
use Rattle.program.proofs.text.put_elements.Given as goal

abbrev pub invariant-loop-element : goal.invariant-loop-element
invariant-loop-element l =
    Left l.fn.text.items l.out l.places l.text.items l.element-iterator.rest.now l.element-iterator.size
