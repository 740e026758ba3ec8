-- The one-call fold accepts each column of a session's table (specs/Agreement.antt, `accepts`). Assumes nothing.
use Rattle.std.specs.Prelude.{◌≡◌, ℕ, zero, suc, ◌+◌, ◌-◌, ◌*◌, ◌^◌, ◌<◌, ◌≤◌, false, List, [], ◌∷◌, length, map}
use Rattle.std.proofs.Common.{refl, sym, ap, ◌∙◌, ltb-false, le-ltb, arith}
use Rattle.std.specs.List.{range_with_len}
use Rattle.std.proofs.lemmas.List.FromFn.{length-map-range_with_len}
use Rattle.algebra.specs.Words.{unreduced}
use Rattle.algebra.proofs.Words.{below, unreduced_cons, unreduced_append, unreduced_zeros}
use Rattle.field.specs.Field.{p, p_pos}
use Rattle.table.specs.Table.{entries}
use Rattle.table.specs.Refusals.{verdict, leaves, most, splits, rows_differ, variables}
use Rattle.table.proofs.Verdicts.{Clear, clear}
use Rattle.work.specs.Work.{work_differs}
use Rattle.split_tests.specs.SplitTests.{fold_answer}
use Rattle.plan.specs.declared.Plan.{Plan}
use Rattle.plan.specs.Plan.{places}
use Rattle.ledger.specs.Session.{Args, planned, open_tests, open_answer}
use Rattle.ledger.specs.Ledger.{Call, feed, close, read, run, Ledger, empty, ledger_answer, entered, ledger_step, joined}
use Rattle.ledger.specs.Demand3.{answers}
use Rattle.ledger.proofs.Ledgers.{words_are}
use Rattle.agreement.specs.Agreement.{table_column}
use Rattle.agreement.proofs.Sizes.{one_power, variables_are, few_variables, whole_elements, as_many_rows}

-- its words are below p
abbrev Below : Ledger → Type 0
Below l = unreduced p l.words ≡ false

-- what an accepted call enters keeps that, and a refused one changes nothing
left_below : (n : ℕ) (new old : Ledger) → Below old → (n ≡ 0 → Below new) → Below (leaves n new old)
left_below zero new old h g = g refl
left_below (suc n) new old h g = h

-- an accepted piece's words are below p, and only pieces are joined
entered_below : (plan : Plan) (c : Call) (l : Ledger) → Below l → (ledger_answer plan c l).number ≡ 0 → Below (entered c l)
entered_below plan (feed piece) l h e = unreduced_append p l.words piece h (clear _ tt (sym e)).1.0
entered_below plan close l h e = h
entered_below plan (read place) l h e = h

-- so after every list of calls
run_below : (plan : Plan) (cs : List Call) (l : Ledger) → Below l → Below (run (ledger_step plan) cs l).1
run_below plan [] l h = h
run_below plan (c ∷ cs) l h =
    run_below plan cs (ledger_step plan c l).1
    (left_below (ledger_answer plan c l).number (entered c l) l h (entered_below plan c l h))

-- the joined words are below p
words_below : (a : Args) (out : List ℕ) → open_answer a out ≡ 0 → (cs : List Call) → unreduced p (joined cs (answers a out cs)) ≡ false
words_below a out h cs = rw (sym (words_are a out h cs)) (run_below (planned a) cs empty (unreduced_zeros p p_pos 0))

-- words that a function gives, all below p
map_below : (f : ℕ → ℕ) → ((t : ℕ) → f t < p) → (us : List ℕ) → unreduced p (map f us) ≡ false
unfolding unreduced
map_below f h [] = refl
map_below f h (u ∷ us) = unreduced_cons p (f u) (map f us) (h u) (map_below f h us)

module _ (plan : Plan) (ws : List ℕ) (j : ℕ) where
  -- a column has 2^n words
  pub column_length : length (table_column plan ws j) ≡ 2 ^ plan.n
  column_length = length-map-range_with_len _ 0 (2 ^ plan.n)

  -- below p, as the table's are
  column_below : unreduced p ws ≡ false → unreduced p (table_column plan ws j) ≡ false
  column_below h = map_below _ (λ w. below p ws h p_pos (w * plan.columns + j)) (range_with_len 0 (2 ^ plan.n))

-- the tests of the one-call fold, one by one
pub accepted : (a : Args) (out : List ℕ) (cs : List Call) (j : ℕ) (work out' : List ℕ) → open_answer a out ≡ 0 → j < a.columns
    → splits work ≡ false → work_differs work (entries a.point) ≡ false → length out' ≡ 4 * places (planned a)
    → fold_answer (table_column (planned a) (joined cs (answers a out cs)) j) a.point a.scale work out' ≡ 0
unfolding open_answer fold_answer verdict
accepted a out cs j work out' h l s d room =
    let ws = joined cs (answers a out cs) in
    let column = table_column (planned a) ws j in
    let tests : Clear (open_tests a out) = clear (open_tests a out) tt (sym h) in
    let lengths = tests.1.1.1.1.1.1 in
    let small : a.n ≤ most = ltb-false most a.n tests.1.1.0 in
    let size : length column ≡ 2 ^ a.n = column_length (planned a) ws j in
    let n : variables (length column) ≡ a.n = variables_are a.n (length column) small size in
    let fits : entries a.point ≤ a.n = ltb-false a.n (entries a.point) lengths.0 in
    rw (
      tests.0,
      s,
      whole_elements (a.n - entries a.point) out' room,
      one_power a.n (length column) small size,
      few_variables a.n (length column) small size,
      tests.1.1.1.0,
      le-ltb (variables (length column)) (entries a.point) (omega (arith, n, fits)),
      d,
      ap (λ m. rows_differ out' (m - entries a.point)) n ∙ as_many_rows (a.n - entries a.point) out' room,
      column_below (planned a) ws j (words_below a out h cs),
      lengths.1.1.0,
      lengths.1.1.1.0,
    )
    refl
