-- The starred cases of document 01, "Points and tables worked through": what the definitions give, and what the paper says.
-- z = (2, 3); f = 1, 4, 9, 16; out and work hold 7 in each word before a call. Assumes nothing.
use Rattle.std.specs.Prelude.{◌≡◌, ℕ, ◌-◌, List, [], ◌∷◌, ◌++◌, replicate}
use Rattle.algebra.specs.Words.{words_of}
use Rattle.multilinear.specs.declared.Side.{Side}
use Rattle.multilinear.specs.declared.Side.TheVariants.{Prefix, Suffix}
use Rattle.multilinear.specs.declared.Weight.{Weight}
use Rattle.multilinear.specs.declared.Weight.TheVariants.{Plain, Shifted}
use Rattle.field.specs.Field.{p, field, from_words}
use Rattle.field.specs.declared.Element.{Element}
use Rattle.table.specs.Refusals.{Outcome}
use Rattle.point.specs.declared.equality.BitOrder.TheVariants.{Msb}
use Rattle.point.specs.Point.{equality_out}
use Rattle.next.specs.Next.{eval_next_answer}
use Rattle.poly.specs.Poly.{new_out, next_out}
use Rattle.poly.specs.Values.{eval_base_answer, eval_ext_answer, eval_next_base_answer}
use Rattle.split_eq.specs.Split.{fold_out}

-- what the definitions give, and the paper's
pub record Case : Type 1 where
  pub Kind : Type 0
  pub given : Kind
  pub paper : Kind

abbrev pub ◌is◌ : {A : Type 0} → A → A → Case
◌is◌ {A} g w = record { Kind = A; given = g; paper = w }

infix 20 ◌is◌
-- every case of a list holds
abbrev pub Hold : List Case → Type 0
Hold [] = Unit
Hold (c ∷ cs) = (c.given ≡ c.paper) × Hold cs

-- c0 + c1·X + c2·X² + c3·X³
abbrev element : ℕ → ℕ → ℕ → ℕ → Element
element c0 c1 c2 c3 = record { c = c0 ∷ c1 ∷ c2 ∷ c3 ∷ [] }

abbrev product : Element → Element → List ℕ
product a b = words_of (field.mul (from_words a) (from_words b))

-- "a single number a means (a, 0, 0, 0)", in words; and -a is p - a
abbrev number : ℕ → List ℕ
number a = a ∷ 0 ∷ 0 ∷ 0 ∷ []

abbrev minus : ℕ → List ℕ
minus a = number (p - a)

abbrev z : List ℕ
z = number 2 ++ number 3

abbrev other : List ℕ
other = number 5 ++ number 7

-- a table of base words
abbrev f : List ℕ
f = 1 ∷ 4 ∷ 9 ∷ 16 ∷ []

-- n words of work or out before a call
abbrev sevens : ℕ → List ℕ
sevens n = replicate n 7

-- out of a fold of f at the point (a), scale 1
abbrev folded : Side → Weight → ℕ → List ℕ
folded side weight a = fold_out side weight f (number a) (element 1 0 0 0) (sevens 12) (sevens 8)

-- an accepted call's answer: number 0, and these words
abbrev accepted : List ℕ → Outcome
accepted ws = record { number = 0; words = ws }

-- each case with its operation: the out or the answer that the operation's contract states
abbrev pub starred : List Case
starred =
    -- field::Element::mul: X·X³ = 11
    (product (element 0 1 0 0) (element 0 0 0 1) is number 11)
    -- field::Element::mul: 2X³·3X³ = 66X²
    ∷ (product (element 0 0 0 2) (element 0 0 0 3) is (0 ∷ 0 ∷ 66 ∷ 0 ∷ []))
    -- field::Element::mul: (p-1)² = 1
    ∷ (product (element (p - 1) 0 0 0) (element (p - 1) 0 0 0) is number 1)
    -- point::equality::equality_table, Msb: eq of z: 2, -3, -4, 6
    ∷ (equality_out Msb z (sevens 16) is number 2 ++ minus 3 ++ minus 4 ++ number 6)
    -- poly::new_next_from_point: the next table of z: 0, 2, -3, 2
    ∷ (next_out z (sevens 16) is number 0 ++ number 2 ++ minus 3 ++ number 2)
    -- poly::new_from_point: of the empty point, scale 5: 5
    ∷ (new_out [] (element 5 0 0 0) (sevens 4) is number 5)
    -- poly::new_next_from_point: the next table of the empty point: 1
    ∷ (next_out [] (sevens 4) is number 1)
    -- poly::value::eval_base: f at z: 50
    ∷ (eval_base_answer f z is accepted (number 50))
    -- poly::value::eval_next_base: the next value of f at z: 13
    ∷ (eval_next_base_answer f z is accepted (number 13))
    -- split_eq::fold::compress_prefix, point (2): 17, 28
    ∷ (folded Prefix Plain 2 is number 17 ++ number 28)
    -- split_eq::fold::compress_prefix_shifted, point (2): -9, -16
    ∷ (folded Prefix Shifted 2 is minus 9 ++ minus 16)
    -- split_eq::fold::compress_suffix, point (3): 10, 30
    ∷ (folded Suffix Plain 3 is number 10 ++ number 30)
    -- split_eq::fold::compress_suffix_shifted, point (3): -8, -32
    ∷ (folded Suffix Shifted 3 is minus 8 ++ minus 32)
    -- next::eval_next, z and (5, 7): carry 144, done -106, omega 210
    ∷ (eval_next_answer z other is accepted (number 144 ++ minus 106 ++ number 210))
    -- poly::new_next_from_point, then poly::value::eval_ext: the next table of z at (5, 7): 104
    ∷ (eval_ext_answer (next_out z (sevens 16)) other is accepted (number 104))
    ∷ []
