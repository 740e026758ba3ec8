-- How the operations agree, for readers: in each of its columns a fold session leaves what the one-call fold of that column leaves, and on
-- next and cyclic weight the sum against the table that `new_next_from_point` or `new_cyclic_from_point` fills; and those tables' values at a
-- second point are what `eval_next` gives. No contract cites it. Assumes nothing.
use Rattle.std.specs.Prelude.{◌≡◌, ℕ, ◌+◌, ◌*◌, ◌^◌, ◌<◌, false, List, length, get_or, map}
use Rattle.std.specs.List.{range_with_len}
use Rattle.algebra.specs.Sum.{sum_to}
use Rattle.field.specs.Field.{Ext, field, base, from_words}
use Rattle.table.specs.Table.{table_words, element_at, entries}
use Rattle.table.specs.Refusals.{evaluated, splits}
use Rattle.point.specs.Point.{table_answer}
use Rattle.work.specs.Work.{work_differs}
use Rattle.next.specs.Next.{eval_next_answer}
use Rattle.poly.specs.Poly.{weights_out, next_out, cyclic_out}
use Rattle.poly.specs.Values.{eval_ext_answer}
use Rattle.split_tests.specs.SplitTests.{fold_answer}
use Rattle.split_eq.specs.Split.{fold_out}
use Rattle.plan.specs.declared.Plan.{Plan}
use Rattle.plan.specs.Plan.{rows, places, word_in}
use Rattle.ledger.specs.Session.{Args, planned, open_answer}
use Rattle.ledger.specs.Ledger.{Call, joined}
use Rattle.ledger.specs.Demand3.{answers, after}

-- column j of a table of c·2^n words: its word w, from 0 to 2^n - 1, is word w·c + j, and 0 where that is not there
abbrev pub table_column : Plan → List ℕ → ℕ → List ℕ
table_column plan ws j = map (λ w. get_or ws (w * plan.columns + j) 0) (range_with_len 0 (2 ^ plan.n))

-- column j of out: its element i is element i·c + j
abbrev pub out_column : Plan → List ℕ → ℕ → List ℕ
out_column plan out j = table_words (places plan) (λ i. element_at out (i * plan.columns + j))

-- carry, done and omega, as `eval_next` gives them: the three elements of its words
abbrev pub carry_of : List ℕ → List ℕ → Ext
carry_of point other = element_at (eval_next_answer point other).words 0

abbrev pub done_of : List ℕ → List ℕ → Ext
done_of point other = element_at (eval_next_answer point other).words 1

abbrev pub omega_of : List ℕ → List ℕ → Ext
omega_of point other = element_at (eval_next_answer point other).words 2

pub record Agreement : Type 0 where
  -- a table fed in any pieces leaves in each column of out what the one-call fold of that column leaves
  pub one_call : (a : Args) (out : List ℕ) (cs : List Call) (j : ℕ) (work out' : List ℕ) → open_answer a out ≡ 0 → j < a.columns
      → let column = table_column (planned a) (joined cs (answers a out cs)) j in
      fold_answer column a.point a.scale work out' ≡ 0
      → out_column (planned a) (after a out cs).out j ≡ fold_out a.side a.weight column a.point a.scale work out'
  -- and the one-call fold accepts that column, given a work buffer and an out of its sizes
  pub accepts : (a : Args) (out : List ℕ) (cs : List Call) (j : ℕ) (work out' : List ℕ) → open_answer a out ≡ 0 → j < a.columns
      → splits work ≡ false → work_differs work (entries a.point) ≡ false → length out' ≡ 4 * places (planned a)
      → fold_answer (table_column (planned a) (joined cs (answers a out cs)) j) a.point a.scale work out' ≡ 0
  -- each column of each place is the sum over the rows y of scale·weight[y]·(word of row y, place i, column j), a word not joined being 0;
  -- the weights being those of a table: on next weight of the one that `new_next_from_point` fills, on cyclic `new_cyclic_from_point`
  pub weights : (a : Args) (out : List ℕ) (cs : List Call) (table : List ℕ) → open_answer a out ≡ 0
      → table_answer a.point table ≡ 0 → (i j : ℕ) → i < places (planned a) → j < a.columns
      → element_at (after a out cs).out (i * a.columns + j)
      ≡ sum_to field (rows (planned a))
      (λ y. field.mul (field.mul (from_words a.scale) (element_at (weights_out a.weight a.point table) y))
      (base (get_or (joined cs (answers a out cs)) (word_in (planned a) i j y) 0)))
  -- for every two points that `eval_next` accepts: `new_next_from_point` accepts the first, and the table that it fills, evaluated by
  -- `eval_ext` at the second, is the sum of the done and the omega that `eval_next` gives
  pub next_table : (point other table : List ℕ) → (eval_next_answer point other).number ≡ 0 → length table ≡ 4 * 2 ^ entries point
      → (table_answer point table ≡ 0)
      × (eval_ext_answer (next_out point table) other ≡ evaluated 0 (field.add (done_of point other) (omega_of point other)))
  -- and the table that `new_cyclic_from_point` fills, the sum of the done and the carry
  pub cyclic_table : (point other table : List ℕ) → (eval_next_answer point other).number ≡ 0 → length table ≡ 4 * 2 ^ entries point
      → (table_answer point table ≡ 0)
      × (eval_ext_answer (cyclic_out point table) other ≡ evaluated 0 (field.add (done_of point other) (carry_of point other)))
