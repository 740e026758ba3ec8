-- Element operations. Assumes nothing.
use Rattle.std.specs.Prelude.{ℕ, ◌||◌, cond, List, [], ◌∷◌}
use Rattle.algebra.specs.Ring.{minus}
use Rattle.algebra.specs.Words.{words_of, unreduced}
use Rattle.multilinear.specs.Beside.{power}
use Rattle.field.specs.Field.{p, Ext, field, base, from_words, at}
use Rattle.field.specs.declared.Element.{Element}
use Rattle.table.specs.Refusals.{leaves}
use Rattle.host.specs.declared.elements.Operation.{Operation}
use Rattle.host.specs.declared.elements.Operation.TheVariants.{Add, Sub, Mul, Neg, Double, MulBase, FromBase, MulRepeat}

-- the words of a base word as an element
abbrev pub single : ℕ → List ℕ
single a = a ∷ 0 ∷ 0 ∷ 0 ∷ []

-- what an operation gives of two operands; a base word is the first word of the second
abbrev pub operated : Operation → Element → Element → Ext
operated Add x y = field.add (from_words x) (from_words y)
operated Sub x y = minus field (from_words x) (from_words y)
operated Mul x y = field.mul (from_words x) (from_words y)
operated Neg x y = field.neg (from_words x)
operated Double x y = field.add (from_words x) (from_words x)
operated MulBase x y = field.mul (from_words x) (base (at y 0))
operated FromBase x y = base (at y 0)
operated (MulRepeat n) x y = field.mul (from_words x) (power field (from_words y) n)

-- 5: a word of an operand is not below p
unfoldable pub element_answer : List ℕ → List ℕ → ℕ
element_answer x y = cond (unreduced p x || unreduced p y) 5 0

-- the operation on the words x and y: out becomes its element's words
unfoldable pub element_out : Operation → List ℕ → List ℕ → List ℕ → List ℕ
element_out o x y out = leaves (element_answer x y) (words_of (operated o (record { c = x }) (record { c = y }))) out
