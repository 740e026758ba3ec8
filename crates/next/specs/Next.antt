-- Operations on two points (document 01, "Successors", "Beside these", and their refused calls). Assumes nothing.
use Rattle.std.specs.Prelude.{ℕ, not, List, [], ◌∷◌, ◌++◌, eqb, Result, Ok, Err}
use Rattle.algebra.specs.Words.{words_of, unreduced}
use Rattle.multilinear.specs.Successors.{NextParts, eval_next}
use Rattle.multilinear.specs.Beside.{eval_eq}
use Rattle.field.specs.Field.{p, Ext, field}
use Rattle.table.specs.Table.{entries, point_of}
use Rattle.table.specs.Refusals.{number, Outcome, alone, Test, ◌gives◌, verdict, given, evaluated, splits, too_many}
use Rattle.table.specs.declared.Refusal.{Refusal}
use Rattle.next.specs.declared.parts.Parts.{Parts}

-- `eval_eq`, `eval_next`: 1, 3, 4, 5
abbrev pub pair_tests : List ℕ → List ℕ → List Test
pair_tests point other =
    splits point gives 1
    ∷ splits other gives 1
    ∷ too_many point gives 3
    ∷ too_many other gives 3
    ∷ not (eqb (entries point) (entries other)) gives 4
    ∷ unreduced p point gives 5
    ∷ unreduced p other gives 5
    ∷ []

unfoldable pub eval_eq_answer : List ℕ → List ℕ → Outcome
eval_eq_answer point other = evaluated (verdict (pair_tests point other)) (eval_eq field (point_of point) (point_of other))

-- number and words of the answer: the three elements' words, or the number alone
abbrev pub next_outcome : Result Parts Refusal → Outcome
next_outcome (Ok x) = record { number = 0; words = x.carry.c ++ x.done.c ++ x.omega.c }
next_outcome (Err r) = alone (number r)

-- carry, done and omega
abbrev pub part_words : NextParts Ext → List ℕ
part_words x = words_of x.carry ++ words_of x.done ++ words_of x.omega

unfoldable pub eval_next_answer : List ℕ → List ℕ → Outcome
eval_next_answer point other = given (verdict (pair_tests point other)) (part_words (eval_next field (point_of point) (point_of other)))
