-- Fixing a variable of a table (document 01, "Beside these"; "Refused calls": Fixing). Assumes nothing.
use Rattle.std.specs.Prelude.{ℕ, ◌+◌, ◌*◌, ◌/◌, cond, List, [], ◌∷◌, ◌++◌, eqb, drop, Result, Ok, Err}
use Rattle.algebra.specs.Words.{unreduced}
use Rattle.multilinear.specs.Beside.{line}
use Rattle.field.specs.Field.{p, Ext, field, from_words}
use Rattle.field.specs.declared.Element.{Element}
use Rattle.table.specs.Table.{table_words, entries, element_at}
use Rattle.table.specs.Refusals.{number, Outcome, alone, Test, ◌gives◌, verdict, leaves, given, splits, not_power, too_many_variables}
use Rattle.table.specs.declared.Refusal.{Refusal}

-- which two entries become one, and how
pub data Rule : Type 0 where
  Prefix : Rule
  Suffix : Rule
  Sum : Rule
  Monomial : Rule

-- entry i of what remains of the table t of 2h entries:
--   prefix    a0 + (a1 - a0)·r over the two halves
--   suffix    the same over neighbours
--   sum       a0 + a1 over the halves
--   monomial  a0 + a1·r over the halves
abbrev pub fixed_at : Rule → ℕ → (ℕ → Ext) → Ext → ℕ → Ext
fixed_at Prefix h t r i = line field (t i) (t (h + i)) r
fixed_at Suffix h t r i = line field (t (2 * i)) (t (2 * i + 1)) r
fixed_at Sum h t r i = field.add (t i) (t (h + i))
fixed_at Monomial h t r i = field.add (t i) (field.mul (t (h + i)) r)

-- the entries that remain stand at the front; "the second half of a fixed or summed table keeps its words"
abbrev pub fixed_table : Rule → List ℕ → Ext → List ℕ
fixed_table rule ws r =
    table_words (entries ws / 2) (fixed_at rule (entries ws / 2) (element_at ws) r) ++ drop (4 * (entries ws / 2)) ws

-- Summing: 1, 2, 3, 5
abbrev pub sum_tests : List ℕ → List Test
sum_tests ws =
    splits ws gives 1
    ∷ not_power (entries ws) gives 2
    ∷ too_many_variables (entries ws) gives 3
    ∷ unreduced p ws gives 5
    ∷ []

-- Fixing: 1, 2, 3, 5, 6 (constant table)
abbrev pub fix_tests : List ℕ → Element → List Test
fix_tests ws r =
    splits ws gives 1
    ∷ not_power (entries ws) gives 2
    ∷ too_many_variables (entries ws) gives 3
    ∷ unreduced p ws gives 5
    ∷ unreduced p r.c gives 5
    ∷ eqb (entries ws) 1 gives 6
    ∷ []

-- number and words of an answer: the count of entries that remain, or the refusal
abbrev pub remaining_outcome : Result ℕ Refusal → Outcome
remaining_outcome (Ok n) = record { number = 0; words = n ∷ [] }
remaining_outcome (Err r) = alone (number r)

unfoldable pub fix_answer : List ℕ → Element → Outcome
fix_answer ws r = given (verdict (fix_tests ws r)) (entries ws / 2 ∷ [])

unfoldable pub fix_out : Rule → List ℕ → Element → List ℕ
fix_out rule ws r = leaves (verdict (fix_tests ws r)) (fixed_table rule ws (from_words r)) ws

-- "a constant comes back unchanged"
unfoldable pub sum_answer : List ℕ → Outcome
sum_answer ws = given (verdict (sum_tests ws)) (cond (eqb (entries ws) 1) 1 (entries ws / 2) ∷ [])

unfoldable pub sum_out : List ℕ → List ℕ
sum_out ws = leaves (verdict (sum_tests ws)) (cond (eqb (entries ws) 1) ws (fixed_table Sum ws field.zero)) ws
