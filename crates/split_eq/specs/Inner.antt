-- What the inner functions take and give. No operation that users call cites it. Assumes nothing.
use Rattle.std.specs.Prelude.{◌≡◌, ℕ, List}
use Rattle.field.specs.Field.{from_words}
use Rattle.field.specs.declared.Element.{Element}
use Rattle.work.specs.Work.{work_words}

-- work holds both tables of k coordinates, with the scale
pub record Weighed (k : ℕ) (point : List ℕ) (scale : Element) (work : List ℕ) : Type 0 where
  pub holds : work ≡ work_words k point (from_words scale)
