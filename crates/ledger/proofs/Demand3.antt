-- Demand 3 (specs/Demand3.antt). Assumes nothing.
use mathlib.Core.Path.{◌≡◌, refl, sym, ap, ◌∙◌}
use Prim.Native.Nat.{ℕ, ◌+◌, ◌*◌, ◌^◌, ◌≤◌, ◌<◌}
use mathlib.Core.List.{List, [], ◌∷◌}
use lib.ListN.{length, get_or}
use borrow.Author.Tests.{lt-leb, le-leb}
use Rattle.algebra.specs.Sum.{sum_to}
use Rattle.multilinear.specs.declared.Side.{Side}
use Rattle.multilinear.specs.declared.Weight.{Weight}
use Rattle.multilinear.specs.declared.Weight.TheVariants.{Shifted, Next, Cyclic}
use Rattle.multilinear.specs.Successors.{NextParts, eval_next, last_row, next_at, cyclic_at}
use Rattle.multilinear.specs.Equality.{eq_at}
use Rattle.multilinear.specs.Values.{value_at}
use Rattle.multilinear.specs.Folds.{word_of, fold_at}
use Rattle.multilinear.proofs.Halves.{sum_scaled}
use Rattle.multilinear.proofs.Successors.{successor_laws}
use Rattle.multilinear.proofs.Folds.{fold_laws}
use Rattle.field.specs.Field.{Ext, field, base, to_words, from_words}
use Rattle.field.proofs.Laws.{field_ring}
use Rattle.table.specs.Table.{get_at, element_at}
use Rattle.table.specs.Refusals.{verdict, Outcome, alone, evaluated}
use Rattle.table.proofs.Laws.{table_words_at, table_at, elements_length}
use Rattle.plan.specs.declared.Plan.{Plan}
use Rattle.plan.specs.Plan.{rows, places, width, coordinates_of, place_of, out_of}
use Rattle.plan.specs.Columns.{plain_at, column_of}
use Rattle.plan.proofs.Columns.{single, column_at}
use Rattle.plan.proofs.Sections.{group_within}
use Rattle.ledger.specs.Session.{State, Args, planned, open_answer, read_answer}
use Rattle.ledger.specs.Ledger.{Call, feed, close, read, run, session_step, joined}
use Rattle.ledger.specs.Demand3.{answers, after, unread, unread_answers, place_at, with_weight, row_gain, Gains, Demand3}
use Rattle.ledger.proofs.Ledgers.{session_is_ledger, read_after, words_are, out_is}
use Rattle.ledger.proofs.Unopened.{unopened}

-- element m of out, and its place and column
pub element_is : (a : Args) (out : List ℕ) → open_answer a out ≡ 0 → (cs : List Call) (m : ℕ) → m < width (planned a)
    → element_at (after a out cs).out m ≡ out_of (planned a) (λ t. base (get_or (joined cs (answers a out cs)) t 0)) m
element_is a out h cs m b = ap (λ w. element_at w m) (out_is a out h cs) ∙ table_at (width (planned a)) _ m b

pub column_is : (a : Args) (out : List ℕ) → open_answer a out ≡ 0 → (cs : List Call) (i j : ℕ) → i < places (planned a) → j < a.columns
    → element_at (after a out cs).out (i * a.columns + j)
    ≡ place_of (planned a) (λ t. base (get_or (joined cs (answers a out cs)) t 0)) i j
column_is a out h cs i j b l =
    element_is a out h cs (i * a.columns + j) (group_within i a.columns j (places (planned a)) b l)
    ∙ column_at (planned a) _ i j l

-- column j of a place of a fold, with the scale outside of the sum
place_is : (plan : Plan) (ws : List ℕ) (i j : ℕ) → place_of plan (λ t. base (get_or ws t 0)) i j ≡ place_at plan ws i j
unfolding place_of
place_is plan ws i j = sum_scaled field_ring (rows plan) _ _ (from_words plan.scale) (λ y b. field_ring.mul_assoc _ _ _)

out_holds : (a : Args) (out : List ℕ) → open_answer a out ≡ 0 → (cs : List Call) (i j : ℕ) → i < places (planned a) → j < a.columns
    → get_at (after a out cs).out (i * a.columns + j) ≡ to_words (place_at (planned a) (joined cs (answers a out cs)) i j)
out_holds a out h cs i j b l =
    ap (λ w. get_at w (i * a.columns + j)) (out_is a out h cs)
    ∙ table_words_at (width (planned a)) _ (i * a.columns + j) (group_within i a.columns j (places (planned a)) b l)
    ∙ ap to_words (column_at (planned a) _ i j l ∙ place_is (planned a) (joined cs (answers a out cs)) i j)

read_holds : (a : Args) (out : List ℕ) → open_answer a out ≡ 0 → (cs : List Call) (i j : ℕ) → i < places (planned a) → j < a.columns
    → read_answer (after a out cs) (i * a.columns + j) ≡ evaluated 0 (place_at (planned a) (joined cs (answers a out cs)) i j)
unfolding verdict
read_holds a out h cs i j b l =
    let m : i * a.columns + j < width (planned a) = group_within i a.columns j (places (planned a)) b l in
    read_after a out h cs (i * a.columns + j)
    ∙ rw (lt-leb (width (planned a)) (i * a.columns + j) m, words_are a out h cs)
    (ap (evaluated 0) (table_at (width (planned a)) _ (i * a.columns + j) m ∙ column_at (planned a) _ i j l
    ∙ place_is (planned a) (joined cs (answers a out cs)) i j))

no_place : (a : Args) (out : List ℕ) → open_answer a out ≡ 0 → (cs : List Call) (place : ℕ) → width (planned a) ≤ place
    → read_answer (after a out cs) place ≡ alone 14
unfolding verdict
no_place a out h cs place b = read_after a out h cs place ∙ rw (le-leb (width (planned a)) place b) refl

apart : (cs : List Call) (st : State)
    → run session_step (unread cs) st ≡ (unread_answers cs (run session_step cs st).0, (run session_step cs st).1)
apart [] st = refl
apart (feed piece ∷ cs) st = ap (λ (r : List Outcome × State). ((session_step (feed piece) st).0 ∷ r.0, r.1)) (apart cs _)
apart (close ∷ cs) st = ap (λ (r : List Outcome × State). ((session_step close st).0 ∷ r.0, r.1)) (apart cs _)
apart (read place ∷ cs) st = apart cs st

-- the fold by a weight is the shifted one plus scale·eq(last row)·word of a row: so are the sessions
module _ (weight : Weight) (row : List Ext → ℕ)
    (law : (side : Side) (inner : ℕ) (zs : List Ext) (scale : Ext) (f : ℕ → Ext) (i : ℕ)
    → fold_at field side weight inner zs scale f i
    ≡ field.add (fold_at field side Shifted inner zs scale f i)
    (field.mul (field.mul scale (eq_at field zs (last_row field zs))) (f (word_of side inner (2 ^ length zs) i (row zs))))) where
  gains : Gains weight row
  gains a out out' h h' cs ds e i j b l =
      let plan = planned a in
      let ws = joined cs (answers (with_weight a Shifted) out cs) in
      let word : ℕ → Ext = λ t. base (get_or ws t 0) in
      let zs = coordinates_of plan in
      column_is (with_weight a weight) out' h' ds i j b l
      ∙ ap (λ us. place_of (planned (with_weight a weight)) (λ t. base (get_or us t 0)) i j) (sym e)
      ∙ single (planned (with_weight a weight)) word i j
      ∙ law plan.side (places plan) zs (from_words plan.scale) (column_of plan word j) i
      ∙ ap
      (λ k. field.add (plain_at (planned (with_weight a Shifted)) (places plan) (column_of plan word j) i)
      (field.mul (field.mul (from_words plan.scale) (eq_at field zs (last_row field zs)))
      (word (word_of plan.side (places plan) (2 ^ k) i (row zs) * plan.columns + j))))
      (elements_length plan.coordinates 0 plan.k)
      ∙ ap (λ x. field.add x (row_gain plan ws i j (row zs)))
      (sym (single (planned (with_weight a Shifted)) word i j) ∙ sym (column_is (with_weight a Shifted) out h cs i j b l))

-- the table of a weight at a second point
at_second : (weight : List Ext → ℕ → Ext) (sum : NextParts Ext → Ext)
    → ((ss ts : List Ext) → length ss ≡ length ts
    → sum_to field (2 ^ length ss) (λ y. field.mul (eq_at field ts y) (weight ss y)) ≡ sum (eval_next field ss ts))
    → (ss ts : List Ext) → length ss ≡ length ts → value_at field ts (weight ss) ≡ sum (eval_next field ss ts)
unfolding value_at
at_second weight sum law ss ts h = rw (sym h) (law ss ts h)

pub demand3 : Demand3
demand3 =
    record {
      lists = session_is_ledger;
      unopened = unopened;
      places_are = out_holds;
      reads_are = read_holds;
      reads_beyond = no_place;
      reads_apart = apart;
      successors = gains Next (last_row field) (fold_laws field_ring).next;
      rounds = gains Cyclic (λ zs. 0) (fold_laws field_ring).cyclic;
      next_table = at_second (next_at field) (λ e. field.add e.done e.omega) (successor_laws field_ring).next;
      cyclic_table = at_second (cyclic_at field) (λ e. field.add e.done e.carry) (successor_laws field_ring).cyclic;
    }
