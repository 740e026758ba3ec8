-- With one column everything is as before there were columns: definitions and statements in their older words. Assumes nothing.
use Rattle.std.specs.Prelude.{◌≡◌, ℕ, ◌-◌, ◌^◌, ◌≤◌, ◌<◌, List, length, get_or}
use Rattle.algebra.specs.Sum.{sum_to}
use Rattle.multilinear.specs.declared.Weight.TheVariants.{Shifted, Next}
use Rattle.multilinear.specs.Equality.{eq_at}
use Rattle.multilinear.specs.Successors.{last_row}
use Rattle.multilinear.specs.Folds.{word_of}
use Rattle.field.specs.Field.{Ext, field, base, to_words, from_words}
use Rattle.table.specs.Table.{table_words, get_at, element_at, placed}
use Rattle.table.specs.Refusals.{alone, evaluated}
use Rattle.point.specs.Point.{table_answer}
use Rattle.poly.specs.Poly.{next_out}
use Rattle.split_tests.specs.SplitTests.{fold_answer}
use Rattle.split_eq.specs.Split.{fold_out}
use Rattle.plan.specs.declared.Plan.{Plan}
use Rattle.plan.specs.Plan.{rows, places, width, capacity, coordinates_of, weight_in, fold_of, gained_by}
use Rattle.plan.specs.Columns.{plain_at}
use Rattle.ledger.specs.Session.{Args, planned, open_answer, read_answer}
use Rattle.ledger.specs.Ledger.{Call, joined}
use Rattle.ledger.specs.Demand3.{answers, after, with_weight}

-- the word of place i of row y, among the words that are there; a missing word is 0
abbrev pub word_at : Plan → List ℕ → ℕ → ℕ → Ext
word_at plan ws i y = base (get_or ws (word_of plan.side (places plan) (rows plan) i y) 0)

-- scale times the sum over all 2^k rows y of weight[y] times the word of place i of row y
abbrev pub place_at : Plan → List ℕ → ℕ → Ext
place_at plan ws i =
    field.mul (from_words plan.scale) (sum_to field (rows plan) (λ y. field.mul (weight_in plan y) (word_at plan ws i y)))

-- scale·eq(last row)·word of that row, at place i
abbrev pub last_gain : Plan → List ℕ → ℕ → Ext
last_gain plan ws i =
    let zs = coordinates_of plan in
    field.mul (field.mul (from_words plan.scale) (eq_at field zs (last_row field zs))) (word_at plan ws i (last_row field zs))

pub record OneColumn : Type 0 where
  -- a table of 2^n words, and an element of out for each of 2^(n-k) places
  pub sizes : (plan : Plan) → plan.columns ≡ 1 → (capacity plan ≡ 2 ^ plan.n) × (width plan ≡ 2 ^ (plan.n - plan.k))
  -- the fold of some words, and what a piece adds, place by place
  pub fold : (plan : Plan) (ws : List ℕ) → plan.columns ≡ 1
      → fold_of plan ws ≡ table_words (places plan) (plain_at plan (places plan) (λ t. base (get_or ws t 0)))
  pub gained : (plan : Plan) (taken : ℕ) (piece out : List ℕ) → plan.columns ≡ 1
      → gained_by plan taken piece out
      ≡ table_words (places plan)
      (λ i. field.add (element_at out i) (plain_at plan (places plan) (λ t. base (placed taken piece t)) i))
  -- out's places, reads, and successors after every list of calls
  pub places_are : (a : Args) (out : List ℕ) → a.columns ≡ 1 → open_answer a out ≡ 0 → (cs : List Call) (i : ℕ) → i < places (planned a)
      → get_at (after a out cs).out i ≡ to_words (place_at (planned a) (joined cs (answers a out cs)) i)
  pub reads_are : (a : Args) (out : List ℕ) → a.columns ≡ 1 → open_answer a out ≡ 0 → (cs : List Call) (i : ℕ) → i < places (planned a)
      → read_answer (after a out cs) i ≡ evaluated 0 (place_at (planned a) (joined cs (answers a out cs)) i)
  pub reads_beyond : (a : Args) (out : List ℕ) → a.columns ≡ 1 → open_answer a out ≡ 0 → (cs : List Call) (i : ℕ) → places (planned a) ≤ i
      → read_answer (after a out cs) i ≡ alone 14
  pub successors : (a : Args) (out out' : List ℕ) → a.columns ≡ 1 → open_answer (with_weight a Shifted) out ≡ 0
      → open_answer (with_weight a Next) out' ≡ 0
      → (cs ds : List Call) → joined cs (answers (with_weight a Shifted) out cs) ≡ joined ds (answers (with_weight a Next) out' ds)
      → (i : ℕ) → i < places (planned a)
      → element_at (after (with_weight a Next) out' ds).out i
      ≡ field.add (element_at (after (with_weight a Shifted) out cs).out i)
      (last_gain (planned a) (joined cs (answers (with_weight a Shifted) out cs)) i)
  -- a place on next weight, against the table that `new_next_from_point` fills
  pub next : (a : Args) (out : List ℕ) (cs : List Call) (table : List ℕ) → a.columns ≡ 1 → a.weight ≡ Next → open_answer a out ≡ 0
      → table_answer a.point table ≡ 0 → (i : ℕ) → i < places (planned a)
      → element_at (after a out cs).out i
      ≡ sum_to field (rows (planned a))
      (λ y. field.mul (field.mul (from_words a.scale) (element_at (next_out a.point table) y))
      (word_at (planned a) (joined cs (answers a out cs)) i y))
  -- a table fed in any pieces leaves what the one-call fold leaves, in an out of as many words
  pub one_call : (a : Args) (out : List ℕ) (cs : List Call) (work out' : List ℕ) → a.columns ≡ 1 → length out' ≡ length out
      → open_answer a out ≡ 0 → fold_answer (joined cs (answers a out cs)) a.point a.scale work out' ≡ 0
      → (after a out cs).out ≡ fold_out a.side a.weight (joined cs (answers a out cs)) a.point a.scale work out'
