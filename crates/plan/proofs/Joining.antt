-- A piece joined to the words that a table has before it: word by word, place by place, and as a whole. Assumes nothing.
use mathlib.Core.Path.{◌≡◌, sym, ap, ◌∙◌}
use Prim.Native.Nat.{ℕ, ◌+◌, ◌-◌, ◌*◌, ◌≤◌, ◌<◌}
use native.Mathlib.Decide.{dec_lt}
use native.Mathlib.Omega.{arith}
use mathlib.Core.List.{List, [], ◌++◌}
use lib.ListN.{length, get_or, replicate, length-replicate, get_or-append, get_or-eq_default}
use lib.Seq.{get_or-append-add}
use Rattle.algebra.specs.Words.{unreduced}
use Rattle.algebra.proofs.Ring.{zero_add}
use Rattle.algebra.proofs.Words.{unreduced_zeros}
use Rattle.multilinear.specs.declared.Side.{Side}
use Rattle.multilinear.specs.declared.Weight.{Weight}
use Rattle.field.specs.Field.{p, p_pos, field, base}
use Rattle.field.specs.declared.Element.{Element}
use Rattle.field.proofs.Laws.{field_ring, base_zero}
use Rattle.table.specs.Table.{elements, placed}
use Rattle.table.specs.Refusals.{most}
use Rattle.table.proofs.Laws.{table_ext, table_at}
use Rattle.table.proofs.Parts.{table_zeros, elements_front}
use Rattle.table.proofs.Placed.{placed_before, placed_word}
use Rattle.plan.specs.declared.Plan.{Plan}
use Rattle.plan.specs.Sound.{Takes, Fills}
use Rattle.plan.specs.Plan.{plan_of, width, coordinates_of, place_of, out_of, fold_of, gained_by}
use Rattle.plan.proofs.Columns.{place_ext, place_add, place_none}

-- u has the words before word `at` and no other, and v those and the piece's after them
module _ (at : ℕ) (piece : List ℕ) (u v : ℕ → ℕ) (before : (t : ℕ) → t < at → v t ≡ u t) (none : (t : ℕ) → at ≤ t → u t ≡ 0)
    (follows : (i : ℕ) → v (at + i) ≡ get_or piece i 0) where
  pub word_joined : (t : ℕ) → base (v t) ≡ field.add (base (u t)) (base (placed at piece t))
  word_joined t = go (dec_lt t at)
    where
      go : Dec (t < at) → base (v t) ≡ field.add (base (u t)) (base (placed at piece t))
      go (yes h) = rw (before t h, placed_before at piece t h, base_zero) (sym (field_ring.add_zero _))
      go (no h) =
          let q : at + (t - at) ≡ t = omega arith in
          let there : v t ≡ placed at piece t =
          ap v (sym q) ∙ follows (t - at) ∙ sym (placed_word at piece (t - at)) ∙ ap (placed at piece) q in
          rw (none t (omega arith), there, base_zero) (sym (zero_add field_ring _))

  pub place_joined : (plan : Plan) (i j : ℕ)
      → field.add (place_of plan (λ t. base (u t)) i j) (place_of plan (λ t. base (placed at piece t)) i j)
      ≡ place_of plan (λ t. base (v t)) i j
  place_joined plan i j = sym (place_ext plan _ _ word_joined i j ∙ place_add plan _ _ i j)

module _ (plan : Plan) where
  -- the fold of some words, with a piece gained, is that of the words with the piece joined on
  pub joined : (ws piece : List ℕ) → gained_by plan (length ws) piece (fold_of plan ws) ≡ fold_of plan (ws ++ piece)
  joined ws piece =
      table_ext (width plan) _ _
      (λ m h. ap (λ x. field.add x (out_of plan (λ t. base (placed (length ws) piece t)) m)) (table_at (width plan) _ m h)
      ∙ place_joined (length ws) piece (λ t. get_or ws t 0) (λ t. get_or (ws ++ piece) t 0) (λ t h. get_or-append ws piece 0 t h)
      (λ t h. get_or-eq_default ws 0 {n = t} h) (λ t. get_or-append-add ws piece t 0) plan _ _)

  -- the fold of no words is zeros
  pub none : replicate (4 * width plan) 0 ≡ fold_of plan []
  none =
      table_zeros (width plan)
      ∙ sym (table_ext (width plan) _ _ (λ m h. place_ext plan _ _ (λ t. base_zero) _ _ ∙ place_none plan _ _))

  -- a whole table gained by zeros is its fold
  pub whole : (table out : List ℕ) {w : List ℕ} → length out ≡ 4 * width plan → w ≡ gained_by plan 0 table (replicate (length out) 0)
      → w ≡ fold_of plan table
  whole table out e d = d ∙ ap (gained_by plan 0 table) (ap (λ m. replicate m 0) e ∙ none) ∙ joined [] table

-- zeros take a whole table
pub begins : {plan : Plan} {table out w : List ℕ} → Fills plan table out → w ≡ replicate (length out) 0 → Takes plan 0 table w
begins {table = table} {out = out} f e =
    record {
      sound = f.sound;
      within = omega (arith, f.count);
      piece_below = f.below;
      room = ap length e ∙ length-replicate (length out) 0 ∙ f.room;
      out_below = ap (unreduced p) e ∙ unreduced_zeros p p_pos (length out);
    }

-- the coordinates of words that are all given
pub given : (n k c : ℕ) (side : Side) (weight : Weight) (scale : Element) (point : List ℕ) → 4 * k ≤ length point
    → coordinates_of (plan_of n k c side weight scale point) ≡ elements point 0 k
given n k c side weight scale point h = elements_front point (replicate (4 * most - length point) 0) 0 k (omega arith)
