-- A section is a fold of its own. Assumes nothing.
use Rattle.byte_fold.proofs.Sections.{cut}
use Rattle.byte_fold.proofs.Section.new.Goals as goal

pub invariant_of-result : goal.invariant_of-result
invariant_of-result c =
    record {
      cut = rw (c.section.ensures, c.places.ensures)
          (cut c.requires.sound c.requires.one_column c.requires.few.0 c.requires.few.1 c.requires.within c.requires.count c.requires.below);
    }
