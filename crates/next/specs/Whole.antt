-- What `Parts` keeps of its three elements. Assumes nothing.
use Rattle.std.specs.Prelude.{◌≡◌, length}
use Rattle.field.specs.declared.Element.{Element}

-- an element's list of words is four long: the array's type, which the logic does not see
abbrev pub FourWords : Element → Type 0
FourWords e = length e.c ≡ 4
