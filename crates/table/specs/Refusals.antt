-- Answers in numbers, and refused calls (document 01, "Refused calls, by operation"). Assumes nothing.
use Rattle.std.specs.Prelude.{ℕ, zero, suc, ◌*◌, ◌^◌, ◌%◌, Bool, not, cond, List, [], ◌∷◌, eqb, ltb, length, Result, Ok, Err}
use Rattle.std.specs.Int.Count.{ones, count_trailing_zeros}
use Rattle.algebra.specs.Words.{words_of}
use Rattle.field.specs.Field.{Ext}
use Rattle.field.specs.declared.Element.{Element}
use Rattle.table.specs.declared.Refusal.{Refusal}
use Rattle.table.specs.declared.Refusal.TheVariants.{Split, NotPower, TooMany, Lengths, Unreduced, Constant, NoVertex, TooLong, Missing, Closed, Broken, NotFrame, Coordinates, NoPlace, Columns}
use Rattle.table.specs.Table.{entries}

-- this paper's number of a refusal
abbrev pub number : Refusal → ℕ
number Split = 1
number NotPower = 2
number TooMany = 3
number Lengths = 4
number Unreduced = 5
number Constant = 6
number NoVertex = 7
number TooLong = 8
number Missing = 9
number Closed = 10
number Broken = 11
number NotFrame = 12
number Coordinates = 13
number NoPlace = 14
number Columns = 15

-- the number of an answer: 0, or the refusal's
abbrev pub answer : {A : Type 0} → Result A Refusal → ℕ
answer (Ok a) = 0
answer (Err r) = number r

-- an answer with values: its number, and the values' words
pub record Outcome : Type 0 where
  pub number : ℕ
  pub words : List ℕ

-- "its number alone"
abbrev pub alone : ℕ → Outcome
alone n = record { number = n; words = [] }

-- number and words of an answer that gives an element: its four words, or the number alone
abbrev pub outcome : Result Element Refusal → Outcome
outcome (Ok e) = record { number = 0; words = e.c }
outcome (Err r) = alone (number r)

-- a test of an operation's list, and the number where it holds
pub record Test : Type 0 where
  pub holds : Bool
  pub number : ℕ

abbrev pub ◌gives◌ : Bool → ℕ → Test
b gives n = record { holds = b; number = n }

infix 70 ◌gives◌
-- "The first that applies, as ordered, is given, and only then"; 0 where none does
unfoldable pub verdict : List Test → ℕ
verdict [] = 0
verdict (t ∷ ts) = cond t.holds t.number (verdict ts)

-- what a call of this number leaves: `new` at 0, where it is accepted, and what was handed to it otherwise
abbrev pub leaves {ℓ} : {A : Type ℓ} → ℕ → A → A → A
leaves zero new old = new
leaves (suc n) new old = old

-- a call of this number answers these words, and none where it is refused
abbrev pub given : ℕ → List ℕ → Outcome
given n words = record { number = n; words = leaves n words [] }

-- and the words of an element
abbrev pub evaluated : ℕ → Ext → Outcome
evaluated n x = given n (words_of x)

-- 3: over 20 variables or coordinates
abbrev pub most : ℕ
most = 20

abbrev pub too_many : List ℕ → Bool
too_many ws = ltb most (entries ws)

-- 15: over 16 columns
abbrev pub most_columns : ℕ
most_columns = 16

-- the words of the largest table
abbrev pub largest : ℕ
largest = most_columns * 2 ^ most

-- 1: element words not a multiple of 4
abbrev pub splits : List ℕ → Bool
splits ws = not (eqb (length ws % 4) 0)

-- 4: the elements are not n
abbrev pub miscounts : List ℕ → ℕ → Bool
miscounts ws n = not (eqb (entries ws) n)

-- 4: the elements of out are not a row for each vertex of k coordinates
abbrev pub rows_differ : List ℕ → ℕ → Bool
rows_differ out k = miscounts out (2 ^ k)

-- 2: entries of a table not a power of two, 0 included: the count of ones is not one
abbrev pub not_power : ℕ → Bool
not_power n = not (eqb (ones n) 1)

-- the variables of a table of n entries: "the count of trailing zeros of a length with just one bit set"
abbrev pub variables : ℕ → ℕ
variables n = count_trailing_zeros 64 n

-- 3: over 20 variables
abbrev pub too_many_variables : ℕ → Bool
too_many_variables n = ltb most (variables n)
