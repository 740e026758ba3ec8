-- After an accepted open a call's answer is the ledger's: the record is never 11, and out never 4 or 5. Assumes nothing.
use mathlib.Core.Path.{◌≡◌, refl, ap, ◌∙◌}
use mathlib.Core.Bool.{Bool, true, false, ◌&&◌, cond}
use Prim.Native.Nat.{ℕ, ◌+◌, ◌*◌, ◌%◌, ◌≤◌}
use native.Mathlib.Omega.{arith}
use mathlib.Core.List.{List, [], ◌∷◌, ◌++◌}
use lib.Dec.{ltb, leb}
use lib.ListN.{length, drop}
use borrow.Author.Tests.{le-ltb, eq-eqb}
use Rattle.algebra.specs.Words.{unreduced}
use Rattle.field.specs.Field.{p}
use Rattle.table.specs.Table.{element_at, entries}
use Rattle.table.specs.Refusals.{Test, ◌gives◌, verdict, evaluated, most}
use Rattle.table.proofs.Laws.{table_length}
use Rattle.table.proofs.Tests.{unreduced_table}
use Rattle.plan.specs.declared.Plan.{Plan}
use Rattle.plan.specs.Plan.{most_on, width, capacity, fold_of}
use Rattle.plan.specs.Sound.{Sound}
use Rattle.ledger.specs.Session.{nonzero, record_tests, out_tests, feed_answer, close_answer, read_answer}
use Rattle.ledger.specs.Ledger.{Ledger, ledger_feed, ledger_close, ledger_read, ledger_state}

-- no more words than the table has, and not fewer once it is closed
pub record Known (plan : Plan) (l : Ledger) : Type 0 where
  pub room : length l.words ≤ capacity plan
  pub full : l.closed ≡ true → capacity plan ≤ length l.words

-- a table of n elements has four words to an element, and n of them
fitting : (n : ℕ) (ws : List ℕ) → length ws ≡ 4 * n → (entries ws ≡ n) × (length ws % 4 ≡ 0)
fitting n ws e = (omega arith, omega arith)

-- a sound plan, unused coordinates 0
module _ (plan : Plan) (ok : Sound plan) (unused : nonzero (drop (4 * plan.k) plan.coordinates) ≡ false) where
  -- the record is never 11
  never_broken : (l : Ledger) → Known plan l → (ts : List Test)
      → verdict (record_tests (ledger_state plan l).session ++ ts) ≡ verdict ts
  unfolding verdict
  never_broken l i ts =
      rw (
        le-ltb most plan.n ok.small,
        le-ltb plan.n plan.k ok.fits,
        le-ltb plan.columns 1 ok.some_columns,
        le-ltb (most_on plan.side) plan.columns ok.few_columns,
        le-ltb (capacity plan) (length l.words) i.room,
        ok.scale_is.words_below,
        ok.coordinates_below,
        unused,
        shut l.closed i.full,
      )
    where
      shut : (b : Bool) → (b ≡ true → capacity plan ≤ length l.words) → (b && ltb (length l.words) (capacity plan)) ≡ false
      shut true h = le-ltb _ _ (h refl)
      shut false h = refl

  -- and its out never 4 or 5
  out_fits : (l : Ledger) (ts : List Test) → verdict (out_tests (ledger_state plan l) ++ ts) ≡ verdict ts
  unfolding verdict
  out_fits l ts =
      let there = fitting (width plan) (fold_of plan l.words) (table_length (width plan) _) in
      rw (eq-eqb _ 0 there.1, eq-eqb _ (width plan) there.0, unreduced_table (width plan) _)

  -- of the tests that feed and close share only 10 is left
  only_closed : (l : Ledger) → Known plan l → (ts : List Test)
      → verdict (record_tests (ledger_state plan l).session ++ l.closed gives 10 ∷ out_tests (ledger_state plan l) ++ ts)
      ≡ verdict (l.closed gives 10 ∷ ts)
  unfolding verdict
  only_closed l i ts =
      never_broken l i (l.closed gives 10 ∷ out_tests (ledger_state plan l) ++ ts) ∙ ap (cond l.closed 10) (out_fits l ts)

  pub feed_same : (piece : List ℕ) (l : Ledger) → Known plan l → feed_answer (ledger_state plan l) piece ≡ ledger_feed plan piece l
  unfolding feed_answer
  feed_same piece l i =
      only_closed l i (unreduced p piece gives 5 ∷ ltb (capacity plan) (length l.words + length piece) gives 8 ∷ [])

  pub close_same : (l : Ledger) → Known plan l → close_answer (ledger_state plan l) ≡ ledger_close plan l
  unfolding close_answer
  close_same l i = only_closed l i (ltb (length l.words) (capacity plan) gives 9 ∷ [])

  pub read_same : (place : ℕ) (l : Ledger) → Known plan l → read_answer (ledger_state plan l) place ≡ ledger_read plan place l
  unfolding read_answer
  read_same place l i =
      let ts = leb (width plan) place gives 14 ∷ [] in
      ap (λ n. evaluated n (element_at (fold_of plan l.words) place))
      (never_broken l i (out_tests (ledger_state plan l) ++ ts) ∙ out_fits l ts)
