-- Demand 3 as one statement, on what the contracts of open, feed, close and read say: sessions after every list of calls. That a point's
-- next table at a second point is done + omega, and its cyclic table done + carry, stands here for elements, and on the words that the
-- operations take and give in `Agreement` (crates/agreement). Assumes nothing.
use Rattle.std.specs.Prelude.{◌≡◌, ℕ, ◌+◌, ◌*◌, ◌≤◌, ◌<◌, List, [], ◌∷◌, length, get_or, replicate}
use Rattle.algebra.specs.Sum.{sum_to}
use Rattle.multilinear.specs.declared.Weight.{Weight}
use Rattle.multilinear.specs.declared.Weight.TheVariants.{Shifted, Next, Cyclic}
use Rattle.multilinear.specs.Equality.{eq_at}
use Rattle.multilinear.specs.Successors.{eval_next, last_row, next_at, cyclic_at}
use Rattle.multilinear.specs.Values.{value_at}
use Rattle.field.specs.Field.{Ext, field, base, to_words, from_words}
use Rattle.table.specs.Table.{get_at, element_at}
use Rattle.table.specs.Refusals.{Outcome, alone, evaluated}
use Rattle.plan.specs.declared.Plan.{Plan}
use Rattle.plan.specs.Plan.{rows, places, width, coordinates_of, word_in, weight_in}
use Rattle.ledger.specs.Session.{State, state, Args, planned, open_answer, open_leaves, no_session, read_answer}
use Rattle.ledger.specs.Ledger.{Call, feed, close, read, run, session_step, empty, ledger_step, ledger_state, joined}

-- all answers, and session and out, after a list of calls from open
abbrev pub answers : Args → List ℕ → List Call → List Outcome
answers a out cs = (run session_step cs (open_leaves a out)).0

abbrev pub after : Args → List ℕ → List Call → State
after a out cs = (run session_step cs (open_leaves a out)).1

-- a list of calls without its reads
abbrev pub unread : List Call → List Call
unread [] = []
unread (feed piece ∷ cs) = feed piece ∷ unread cs
unread (close ∷ cs) = close ∷ unread cs
unread (read place ∷ cs) = unread cs

-- and of the answers to such a list those to the other calls
abbrev pub unread_answers : List Call → List Outcome → List Outcome
unread_answers [] vs = []
unread_answers (c ∷ cs) [] = []
unread_answers (feed piece ∷ cs) (v ∷ vs) = v ∷ unread_answers cs vs
unread_answers (close ∷ cs) (v ∷ vs) = v ∷ unread_answers cs vs
unread_answers (read place ∷ cs) (v ∷ vs) = unread_answers cs vs

-- the word of row y, place i, column j, among the words that are there; a missing word is 0
abbrev pub word_at : Plan → List ℕ → ℕ → ℕ → ℕ → Ext
word_at plan ws i j y = base (get_or ws (word_in plan i j y) 0)

-- scale times the sum over all 2^k rows y of weight[y] times the word of row y, place i, column j
abbrev pub place_at : Plan → List ℕ → ℕ → ℕ → Ext
place_at plan ws i j =
    field.mul (from_words plan.scale) (sum_to field (rows plan) (λ y. field.mul (weight_in plan y) (word_at plan ws i j y)))

-- the same arguments with another weight
abbrev pub with_weight : Args → Weight → Args
with_weight a w = record { n = a.n; columns = a.columns; side = a.side; weight = w; scale = a.scale; point = a.point }

-- scale·eq(last row)·word of row y, at column j of place i
abbrev pub row_gain : Plan → List ℕ → ℕ → ℕ → ℕ → Ext
row_gain plan ws i j y =
    let zs = coordinates_of plan in
    field.mul (field.mul (from_words plan.scale) (eq_at field zs (last_row field zs))) (word_at plan ws i j y)

-- two sessions, one on shifted weight and one on this, and otherwise alike, each opened on an out of its own, whose accepted pieces join to
-- the same words: in every column this is shifted plus scale·eq(last row)·word of a row, which the coordinates give
abbrev pub Gains : Weight → (List Ext → ℕ) → Type 0
Gains weight row =
    (a : Args) (out out' : List ℕ) → open_answer (with_weight a Shifted) out ≡ 0 → open_answer (with_weight a weight) out' ≡ 0
    → (cs ds : List Call) → joined cs (answers (with_weight a Shifted) out cs) ≡ joined ds (answers (with_weight a weight) out' ds)
    → (i j : ℕ) → i < places (planned a) → j < a.columns
    → element_at (after (with_weight a weight) out' ds).out (i * a.columns + j)
    ≡ field.add (element_at (after (with_weight a Shifted) out cs).out (i * a.columns + j))
    (row_gain (planned a) (joined cs (answers (with_weight a Shifted) out cs)) i j (row (coordinates_of (planned a))))

pub record Demand3 : Type 0 where
  -- after every list of calls from an accepted open: all answers, a read's with its element, the session and out are the ledger's
  pub lists : (a : Args) (out : List ℕ) → open_answer a out ≡ 0 → (cs : List Call)
      → run session_step cs (open_leaves a out)
      ≡ ((run (ledger_step (planned a)) cs empty).0, ledger_state (planned a) (run (ledger_step (planned a)) cs empty).1)
  -- from a refused open every call is 11, and out keeps its words
  pub unopened : (a : Args) (out : List ℕ) → (open_answer a out ≡ 0 → ⊥) → (cs : List Call)
      → run session_step cs (open_leaves a out) ≡ (replicate (length cs) (alone 11), state no_session out)
  -- after every list of calls from an accepted open out has at i·c + j, for column j of place i, scale times the sum over the rows of
  -- weight times word, of the joined accepted pieces
  pub places_are : (a : Args) (out : List ℕ) → open_answer a out ≡ 0 → (cs : List Call) (i j : ℕ) → i < places (planned a) → j < a.columns
      → get_at (after a out cs).out (i * a.columns + j) ≡ to_words (place_at (planned a) (joined cs (answers a out cs)) i j)
  -- a read after every list of calls from an accepted open, which counts c places for each: the same sum, and 14 from c·2^(n-k) on
  pub reads_are : (a : Args) (out : List ℕ) → open_answer a out ≡ 0 → (cs : List Call) (i j : ℕ) → i < places (planned a) → j < a.columns
      → read_answer (after a out cs) (i * a.columns + j) ≡ evaluated 0 (place_at (planned a) (joined cs (answers a out cs)) i j)
  pub reads_beyond : (a : Args) (out : List ℕ) → open_answer a out ≡ 0 → (cs : List Call) (place : ℕ) → width (planned a) ≤ place
      → read_answer (after a out cs) place ≡ alone 14
  -- reads alter nothing: on any session and out, broken ones too, a list and the same list without its reads leave the same, and answer
  -- the other calls alike
  pub reads_apart : (cs : List Call) (st : State)
      → run session_step (unread cs) st ≡ (unread_answers cs (run session_step cs st).0, (run session_step cs st).1)
  -- a session on next weight has the last row's word beside, and one on cyclic weight that of row 0
  pub successors : Gains Next (last_row field)
  pub rounds : Gains Cyclic (λ zs. 0)
  -- a point's next table at a second point is `eval_next`'s done + omega, and its cyclic table done + carry
  pub next_table : (ss ts : List Ext) → length ss ≡ length ts
      → value_at field ts (next_at field ss) ≡ field.add (eval_next field ss ts).done (eval_next field ss ts).omega
  pub cyclic_table : (ss ts : List Ext) → length ss ≡ length ts
      → value_at field ts (cyclic_at field ss) ≡ field.add (eval_next field ss ts).done (eval_next field ss ts).carry
