-- What a factor that was made ready holds, and the words of a product by it. No operation that users call cites it. Assumes nothing.
use Rattle.std.specs.Prelude.{ℕ}
use Rattle.field.specs.declared.Element.{Element}
use Rattle.field.specs.Field.{factor, at, Reduced, field, base, to_words, from_words, Holds}
use Rattle.field.specs.Inner.{unit}

-- y is r·2³², and `back` that times X⁴
pub record Ready (r y back : Element) : Type 0 where
  pub by : Reduced r
  pub raised : Holds y (field.mul (from_words r) (base unit))
  pub raised_back : Holds back (field.mul (from_words y) (base factor))

-- word k of x r
abbrev pub product_word : Element → Element → ℕ → ℕ
product_word x r k = at (to_words (field.mul (from_words x) (from_words r))) k
