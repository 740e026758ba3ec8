-- The operations agree (specs/Agreement.antt). Assumes nothing.
use mathlib.Core.Path.{◌≡◌, refl, sym, ap, ◌∙◌}
use Prim.Native.Nat.{ℕ, ◌+◌, ◌-◌, ◌*◌, ◌^◌, ◌≤◌, ◌<◌}
use native.Mathlib.Nat.{mul_comm, mul-le-mul_right}
use native.Mathlib.Decide.{dec_lt}
use native.Mathlib.Omega.{arith}
use mathlib.Core.List.{List}
use lib.ListN.{length, get_or, get_or-eq_default}
use Rattle.std.proofs.lemmas.List.FromFn.{get_or-map-range_with_len}
use Rattle.algebra.specs.Sum.{sum_to}
use Rattle.algebra.proofs.Sums.{sum_ext}
use Rattle.multilinear.specs.declared.Side.{Side}
use Rattle.multilinear.specs.declared.Weight.{Weight}
use Rattle.multilinear.specs.declared.Weight.TheVariants.{Next, Cyclic}
use Rattle.multilinear.specs.Folds.{word_of, weight_at, fold_at}
use Rattle.multilinear.proofs.Successors.{successor_laws}
use Rattle.multilinear.proofs.Folds.{fold_ext}
use Rattle.field.specs.Field.{Ext, field, base, from_words}
use Rattle.field.proofs.Laws.{field_ring}
use Rattle.table.specs.Table.{table_words, element_at, entries, point_of}
use Rattle.table.specs.Refusals.{variables}
use Rattle.table.proofs.Laws.{table_ext, table_at, elements_length}
use Rattle.point.specs.Point.{table_answer}
use Rattle.poly.specs.Poly.{weights_out}
use Rattle.split_tests.specs.SplitTests.{fold_answer}
use Rattle.split_eq.specs.Split.{fold_plan, fold_out, base_at}
use Rattle.plan.specs.declared.Plan.{Plan}
use Rattle.plan.specs.Plan.{rows, places, capacity, coordinates_of, word_in}
use Rattle.plan.specs.Columns.{plain_at, column_of}
use Rattle.plan.proofs.Columns.{single}
use Rattle.plan.proofs.OneColumn.{one_fold}
use Rattle.plan.proofs.Joining.{given}
use Rattle.ledger.specs.Session.{Args, planned, open_answer}
use Rattle.ledger.specs.Ledger.{Call, joined}
use Rattle.ledger.specs.Demand3.{answers, after}
use Rattle.ledger.proofs.Accepted.{opened}
use Rattle.ledger.proofs.Ledgers.{words_fit}
use Rattle.ledger.proofs.Demand3.{column_is}
use Rattle.agreement.specs.Agreement.{table_column, out_column, Agreement}
use Rattle.agreement.proofs.WeightTables.{weights_words}
use Rattle.agreement.proofs.Sizes.{variables_are}
use Rattle.agreement.proofs.Accepting.{column_length, accepted}

module _ (plan : Plan) (ws : List ℕ) (j : ℕ) where
  -- word w of it, and none behind it, where the table has no more than c·2^n words
  column_at : length ws ≤ capacity plan → (w : ℕ) → get_or (table_column plan ws j) w 0 ≡ get_or ws (w * plan.columns + j) 0
  column_at fits w = go (dec_lt w (2 ^ plan.n))
    where
      go : Dec (w < 2 ^ plan.n) → get_or (table_column plan ws j) w 0 ≡ get_or ws (w * plan.columns + j) 0
      go (yes h) = get_or-map-range_with_len (λ t. get_or ws (t * plan.columns + j) 0) 0 (2 ^ plan.n) w w 0 h (omega arith)
      go (no h) =
          let le : 2 ^ plan.n * plan.columns ≤ w * plan.columns = mul-le-mul_right plan.columns (omega arith) in
          get_or-eq_default (table_column plan ws j) 0 {n = w} (omega (arith, column_length plan ws j))
          ∙ sym (get_or-eq_default ws 0 {n = w * plan.columns + j} (omega (arith, le, mul_comm plan.columns (2 ^ plan.n))))

-- both plans have as many variables, and the fold of a column has the column's words
as_in_one_call : (a : Args) (out : List ℕ) (cs : List Call) (j : ℕ) (work out' : List ℕ) → open_answer a out ≡ 0 → j < a.columns
    → let column = table_column (planned a) (joined cs (answers a out cs)) j in
    fold_answer column a.point a.scale work out' ≡ 0
    → out_column (planned a) (after a out cs).out j ≡ fold_out a.side a.weight column a.point a.scale work out'
unfolding fold_out
as_in_one_call a out cs j work out' h l g =
    let plan = planned a in
    let ws = joined cs (answers a out cs) in
    let column = table_column plan ws j in
    let n : variables (length column) ≡ a.n = variables_are a.n (length column) (opened a out (sym h)).sound.small (column_length plan ws j) in
    rw g
    (table_ext (places plan) _ _ (λ i b. column_is a out h cs i j b l ∙ single plan (base_at ws) i j)
    ∙ table_ext (places plan) _ _
    (λ i b. fold_ext field_ring _ _ _ _ _ (column_of plan (base_at ws) j) (base_at column)
    (λ w. ap base (sym (column_at plan ws j (words_fit a out h cs) w))) i)
    ∙ ap (λ m. table_words (2 ^ (m - plan.k)) (plain_at plan (2 ^ (m - plan.k)) (base_at column))) (sym n)
    ∙ sym (one_fold (fold_plan a.side a.weight column a.point a.scale) refl column))

-- a fold is the sum against a table that has the weights
against : (side : Side) (weight : Weight) (inner k : ℕ) (zs : List Ext) (scale : Ext) (f g : ℕ → Ext) → k ≡ length zs
    → ((y : ℕ) → y < 2 ^ k → weight_at field weight zs y ≡ g y) → (i : ℕ)
    → fold_at field side weight inner zs scale f i
    ≡ sum_to field (2 ^ k) (λ y. field.mul (field.mul scale (g y)) (f (word_of side inner (2 ^ k) i y)))
unfolding fold_at
against side weight inner k zs scale f g e h i =
    rw e
    (sum_ext field_ring (2 ^ length zs) _ _
    (λ y b. ap (λ x. field.mul (field.mul scale x) (f (word_of side inner (2 ^ length zs) i y))) (h y (rw e b))))

-- row y of such a table
weight_row : (weight : Weight) (point table : List ℕ) → table_answer point table ≡ 0 → (y : ℕ) → y < 2 ^ entries point
    → weight_at field weight (point_of point) y ≡ element_at (weights_out weight point table) y
unfolding weights_out
weight_row weight point table h y b = rw h (sym (table_at (2 ^ entries point) (weight_at field weight (point_of point)) y b))

against_weights : (a : Args) (out : List ℕ) (cs : List Call) (table : List ℕ) → open_answer a out ≡ 0
    → table_answer a.point table ≡ 0 → (i j : ℕ) → i < places (planned a) → j < a.columns
    → element_at (after a out cs).out (i * a.columns + j)
    ≡ sum_to field (rows (planned a))
    (λ y. field.mul (field.mul (from_words a.scale) (element_at (weights_out a.weight a.point table) y))
    (base (get_or (joined cs (answers a out cs)) (word_in (planned a) i j y) 0)))
against_weights a out cs table h t i j b l =
    let zs = coordinates_of (planned a) in
    let f = column_of (planned a) (base_at (joined cs (answers a out cs))) j in
    let zs-are : zs ≡ point_of a.point = given a.n (entries a.point) a.columns a.side a.weight a.scale a.point (omega arith) in
    column_is a out h cs i j b l ∙ single (planned a) (base_at (joined cs (answers a out cs))) i j
    ∙ against a.side a.weight (places (planned a)) (entries a.point) zs (from_words a.scale) f
    (element_at (weights_out a.weight a.point table))
    (sym (elements_length (planned a).coordinates 0 (entries a.point)))
    (λ y c. ap (λ us. weight_at field a.weight us y) zs-are ∙ weight_row a.weight a.point table t y c) i

pub agreement : Agreement
agreement =
    record {
      one_call = as_in_one_call;
      accepts = accepted;
      weights = against_weights;
      next_table = weights_words Next 2 (omega arith) (successor_laws field_ring).next;
      cyclic_table = weights_words Cyclic 0 (omega arith) (successor_laws field_ring).cyclic;
    }
