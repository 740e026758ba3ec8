-- What the inner functions take. No operation that users call cites it. Assumes nothing.
use Rattle.multilinear.specs.Successors.{NextParts}
use Rattle.field.specs.Field.{Ext, field, from_words, Reduced, Holds}
use Rattle.field.specs.declared.Element.{Element}
use Rattle.next.specs.declared.parts.Parts.{Parts}

-- two coordinates, and their product
pub record Paired (s t both : Element) : Type 0 where
  pub first : Reduced s
  pub second : Reduced t
  pub product : Holds both (field.mul (from_words s) (from_words t))

-- carry, done and omega, each by its element
pub record HoldParts (e : Parts) (x : NextParts Ext) : Type 0 where
  pub carry_is : Holds e.carry x.carry
  pub done_is : Holds e.done x.done
  pub omega_is : Holds e.omega x.omega
