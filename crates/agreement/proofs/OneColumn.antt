-- With one column everything is as before (specs/OneColumn.antt). Assumes nothing.
use mathlib.Core.Path.{◌≡◌, refl, sym, ap, ◌∙◌}
use Prim.Native.Nat.{ℕ, ◌+◌, ◌*◌, ◌/◌, ◌^◌, ◌<◌}
use native.Mathlib.Nat.{mul-one}
use native.Mathlib.Omega.{arith}
use mathlib.Core.List.{List}
use lib.ListN.{length, get_or}
use Rattle.algebra.specs.Sum.{sum_to}
use Rattle.algebra.proofs.Sums.{sum_ext}
use Rattle.multilinear.specs.declared.Weight.TheVariants.{Shifted, Next}
use Rattle.multilinear.specs.Equality.{eq_at}
use Rattle.multilinear.specs.Successors.{last_row}
use Rattle.multilinear.specs.Folds.{word_of}
use Rattle.field.specs.Field.{field, base, to_words, from_words}
use Rattle.field.proofs.Laws.{field_ring}
use Rattle.table.specs.Table.{table_words, get_at, element_at}
use Rattle.table.specs.Refusals.{evaluated}
use Rattle.point.specs.Point.{table_answer}
use Rattle.poly.specs.Poly.{weights_out, next_out}
use Rattle.split_tests.specs.SplitTests.{fold_answer, remains}
use Rattle.split_eq.specs.Split.{fold_plan, fold_out, base_at}
use Rattle.split_eq.proofs.FoldOutcomes.{tested}
use Rattle.plan.specs.declared.Plan.{Plan}
use Rattle.plan.specs.Plan.{rows, places, coordinates_of, weight_in, word_in}
use Rattle.plan.specs.Columns.{plain_at}
use Rattle.plan.proofs.OneColumn.{one_width, one_table, one_fold, one_gained}
use Rattle.ledger.specs.Session.{Args, planned, open_answer, read_answer}
use Rattle.ledger.specs.Ledger.{Call, joined}
use Rattle.ledger.specs.Demand3 as demand
use Rattle.ledger.proofs.Ledgers.{elements_there, out_is}
use Rattle.ledger.proofs.Demand3.{demand3}
use Rattle.agreement.specs.OneColumn.{word_at, place_at, last_gain, OneColumn}
use Rattle.agreement.proofs.Agreement.{agreement}

-- the one column of a place or of a word
column_zero : {c : ℕ} → c ≡ 1 → (w : ℕ) → w * c + 0 ≡ w
column_zero one w = let m : w * 1 ≡ w = mul-one w in rw one (omega (arith, m))

module _ (plan : Plan) (one : plan.columns ≡ 1) (ws : List ℕ) (i : ℕ) where
  place_same : demand.place_at plan ws i 0 ≡ place_at plan ws i
  place_same =
      ap (field.mul (from_words plan.scale))
      (sum_ext field_ring (rows plan) _ _
      (λ y b. ap (λ t. field.mul (weight_in plan y) (base (get_or ws t 0))) (column_zero one (word_of plan.side (places plan) (rows plan) i y))))

  gain_same : demand.row_gain plan ws i 0 (last_row field (coordinates_of plan)) ≡ last_gain plan ws i
  gain_same =
      let zs = coordinates_of plan in
      ap (λ t. field.mul (field.mul (from_words plan.scale) (eq_at field zs (last_row field zs))) (base (get_or ws t 0)))
      (column_zero one (word_of plan.side (places plan) (rows plan) i (last_row field zs)))

module _ (a : Args) (one : a.columns ≡ 1) where
  -- the number of a place, and that it has a column
  at : (i : ℕ) → i * a.columns + 0 ≡ i
  at i = column_zero one i

  some : 0 < a.columns
  some = omega (arith, one)

  module _ (out : List ℕ) (h : open_answer a out ≡ 0) (cs : List Call) where
    abbrev ws : List ℕ
    ws = joined cs (demand.answers a out cs)

    pub out_place : (i : ℕ) → i < places (planned a) → get_at (demand.after a out cs).out i ≡ to_words (place_at (planned a) ws i)
    out_place i b =
        ap (get_at (demand.after a out cs).out) (sym (at i)) ∙ demand3.places_are a out h cs i 0 b some
        ∙ ap to_words (place_same (planned a) one ws i)

    pub read_place : (i : ℕ) → i < places (planned a) → read_answer (demand.after a out cs) i ≡ evaluated 0 (place_at (planned a) ws i)
    read_place i b =
        ap (read_answer (demand.after a out cs)) (sym (at i)) ∙ demand3.reads_are a out h cs i 0 b some
        ∙ ap (evaluated 0) (place_same (planned a) one ws i)

    pub next_place : (table : List ℕ) → a.weight ≡ Next → table_answer a.point table ≡ 0 → (i : ℕ) → i < places (planned a)
        → element_at (demand.after a out cs).out i
        ≡ sum_to field (rows (planned a))
        (λ y. field.mul (field.mul (from_words a.scale) (element_at (next_out a.point table) y)) (word_at (planned a) ws i y))
    next_place table e t i b =
        ap (element_at (demand.after a out cs).out) (sym (at i)) ∙ agreement.weights a out cs table h t i 0 b some
        ∙ ap
        (λ w. sum_to field (rows (planned a))
        (λ y. field.mul (field.mul (from_words a.scale) (element_at (weights_out w a.point table) y))
        (base (get_or ws (word_in (planned a) i 0 y) 0)))) e
        ∙ sum_ext field_ring (rows (planned a)) _ _
        (λ y c. ap (λ n. field.mul (field.mul (from_words a.scale) (element_at (next_out a.point table) y)) (base (get_or ws n 0)))
        (column_zero one (word_of a.side (places (planned a)) (rows (planned a)) i y)))

    pub whole_fold : (work out' : List ℕ) → length out' ≡ length out → fold_answer ws a.point a.scale work out' ≡ 0
        → (demand.after a out cs).out ≡ fold_out a.side a.weight ws a.point a.scale work out'
    unfolding fold_out
    whole_fold work out' l g =
        let q : places (planned a) ≡ 2 ^ remains ws a.point =
        sym (one_width (planned a) one) ∙ sym (elements_there a out h) ∙ ap (λ n. n / 4) (sym l)
        ∙ (tested ws a.point a.scale work out' (sym g)).rows in
        rw g
        (out_is a out h cs ∙ one_fold (planned a) one ws
        ∙ ap (λ m. table_words m (plain_at (planned a) m (base_at ws))) q
        ∙ sym (one_fold (fold_plan a.side a.weight ws a.point a.scale) refl ws))

pub one_column : OneColumn
one_column =
    record {
      sizes = λ plan one. (one_table plan one, one_width plan one);
      fold = λ plan ws one. one_fold plan one ws;
      gained = λ plan taken piece out one. one_gained plan one taken piece out;
      places_are = λ a out one h cs i b. out_place a one out h cs i b;
      reads_are = λ a out one h cs i b. read_place a one out h cs i b;
      reads_beyond = λ a out one h cs i b. demand3.reads_beyond a out h cs i (omega (arith, one_width (planned a) one));
      successors = λ a out out' one h h' cs ds e i b.
          ap (element_at (demand.after (demand.with_weight a Next) out' ds).out) (sym (at a one i))
          ∙ demand3.successors a out out' h h' cs ds e i 0 b (some a one)
          ∙ ap
          (λ m. field.add (element_at (demand.after (demand.with_weight a Shifted) out cs).out m)
          (demand.row_gain (planned a) (joined cs (demand.answers (demand.with_weight a Shifted) out cs)) i 0
          (last_row field (coordinates_of (planned a))))) (at a one i)
          ∙ ap (field.add (element_at (demand.after (demand.with_weight a Shifted) out cs).out i))
          (gain_same (planned a) one (joined cs (demand.answers (demand.with_weight a Shifted) out cs)) i);
      next = λ a out cs table one e h t i b. next_place a one out h cs table e t i b;
      one_call = λ a out cs work out' one l h g. whole_fold a one out h cs work out' l g;
    }
