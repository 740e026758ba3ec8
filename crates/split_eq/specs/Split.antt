-- Split folds, values with a scale, and the weights (document 01, "Split folds"; document 02, request (f)). What the calls are refused for is in
-- crates/split_tests/specs/SplitTests.antt. Assumes nothing.
use Rattle.std.specs.Prelude.{◌≡◌, ℕ, ◌^◌, List, Result, length, get_or}
use Rattle.multilinear.specs.declared.Side.{Side}
use Rattle.multilinear.specs.declared.Weight.{Weight}
use Rattle.multilinear.specs.Equality.{eq_at}
use Rattle.multilinear.specs.Successors.{last_row}
use Rattle.multilinear.specs.Folds.{scaled_value_at, scaled_next_value_at}
use Rattle.field.specs.Field.{Ext, field, base, from_words}
use Rattle.field.specs.declared.Element.{Element}
use Rattle.table.specs.Table.{table_words, entries, element_at, point_of}
use Rattle.table.specs.Refusals.{answer, Outcome, verdict, leaves, evaluated, variables}
use Rattle.table.specs.declared.Refusal.{Refusal}
use Rattle.plan.specs.declared.Plan.{Plan}
use Rattle.plan.specs.Plan.{plan_of, fold_of}
use Rattle.work.specs.Work.{work_words}
use Rattle.split_tests.specs.SplitTests.{fold_answer, base_answer, ext_answer, last_tests, accumulate_answer}

-- both tables of the point, with the scale
abbrev pub both_tables : List ℕ → Element → List ℕ
both_tables point scale = work_words (entries point) point (from_words scale)

-- a table of base words
abbrev pub base_at : List ℕ → ℕ → Ext
base_at table y = base (get_or table y 0)

-- split folds
unfoldable pub fold_work : List ℕ → List ℕ → Element → List ℕ → List ℕ → List ℕ
fold_work table point scale work out = leaves (fold_answer table point scale work out) (both_tables point scale) work

-- the plan of a fold: the table's variables, as many coordinates as the point has, and one column
abbrev pub fold_plan : Side → Weight → List ℕ → List ℕ → Element → Plan
fold_plan side weight table point scale = plan_of (variables (length table)) (entries point) 1 side weight scale point

-- the fold, place by place, on the prefix or the suffix side, by plain, shifted or cyclic weights
abbrev pub folded : Side → Weight → List ℕ → List ℕ → Element → List ℕ
folded side weight table point scale = fold_of (fold_plan side weight table point scale) table

unfoldable pub fold_out : Side → Weight → List ℕ → List ℕ → Element → List ℕ → List ℕ → List ℕ
fold_out side weight table point scale work out =
    leaves (fold_answer table point scale work out) (folded side weight table point scale) out

-- what a call of a fold answers, and leaves in work and in out
pub record Compressed (side : Side) (weight : Weight) (table point : List ℕ) (scale : Element) (work out : List ℕ)
    (result : Result Unit Refusal) (work_new out_new : List ℕ) : Type 0 where
  pub result_value : answer result ≡ fold_answer table point scale work out
  pub work_after : work_new ≡ fold_work table point scale work out
  pub out_after : out_new ≡ fold_out side weight table point scale work out

-- evaluations, of a table of base words
unfoldable pub base_work : List ℕ → List ℕ → Element → List ℕ → List ℕ
base_work table point scale work = leaves (base_answer table point scale work) (both_tables point scale) work

unfoldable pub scaled_base_answer : List ℕ → List ℕ → Element → List ℕ → Outcome
scaled_base_answer table point scale work =
    evaluated (base_answer table point scale work) (scaled_value_at field (point_of point) (from_words scale) (base_at table))

unfoldable pub scaled_next_base_answer : List ℕ → List ℕ → Element → List ℕ → Outcome
scaled_next_base_answer table point scale work =
    evaluated (base_answer table point scale work) (scaled_next_value_at field (point_of point) (from_words scale) (base_at table))

-- of a table of elements
unfoldable pub ext_work : List ℕ → List ℕ → Element → List ℕ → List ℕ
ext_work table point scale work = leaves (ext_answer table point scale work) (both_tables point scale) work

unfoldable pub scaled_ext_answer : List ℕ → List ℕ → Element → List ℕ → Outcome
scaled_ext_answer table point scale work =
    evaluated (ext_answer table point scale work) (scaled_value_at field (point_of point) (from_words scale) (element_at table))

-- `last_scalar`: scale·eq[N-1]
unfoldable pub last_answer : List ℕ → Element → List ℕ → Outcome
last_answer point scale work =
    evaluated (verdict (last_tests point scale work))
    (field.mul (from_words scale) (eq_at field (point_of point) (last_row field (point_of point))))

unfoldable pub last_work : List ℕ → Element → List ℕ → List ℕ
last_work point scale work = leaves (verdict (last_tests point scale work)) (both_tables point scale) work

-- `accumulate_into`: out[y] gains own scale·given scale·eq[y]
unfoldable pub accumulate_work : List ℕ → Element → Element → List ℕ → List ℕ → List ℕ
accumulate_work point scale given work out = leaves (accumulate_answer point scale given work out) (both_tables point scale) work

unfoldable pub accumulate_out : List ℕ → Element → Element → List ℕ → List ℕ → List ℕ
accumulate_out point scale given work out =
    leaves (accumulate_answer point scale given work out)
    (table_words (2 ^ entries point)
    (λ y. field.add (element_at out y)
    (field.mul (field.mul (from_words scale) (from_words given)) (eq_at field (point_of point) y)))) out
