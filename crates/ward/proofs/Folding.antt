-- What an accepted shifted fold takes and leaves. Assumes nothing.
use mathlib.Core.Path.{◌≡◌, refl, sym, ap, ◌∙◌}
use mathlib.Core.Bool.{false}
use Prim.Native.Nat.{ℕ, ◌+◌, ◌-◌, ◌*◌, ◌/◌, ◌%◌, ◌^◌, ◌≤◌, ◌<◌}
use native.Mathlib.Omega.{arith}
use mathlib.Core.List.{List}
use lib.ListN.{length, replicate}
use borrow.Author.Tests.{ltb-false}
use Rattle.octets.specs.Octets.{words, octets}
use Rattle.octets.proofs.Octets.{words_length}
use Rattle.algebra.specs.Words.{unreduced}
use Rattle.algebra.proofs.Words.{unreduced_append, unreduced_zeros}
use Rattle.multilinear.specs.declared.Weight.TheVariants.{Shifted}
use Rattle.field.specs.Field.{p, p_pos, from_words, Reduced}
use Rattle.table.specs.Table.{entries}
use Rattle.table.specs.Refusals.{most, not_power, variables}
use Rattle.table.proofs.Powers.{power_of}
use Rattle.table.proofs.Tests.{same}
use Rattle.table.proofs.Verdicts.{clear}
use Rattle.point.specs.declared.Point.{Point}
use Rattle.point.specs.Coordinates.{Coordinates}
use Rattle.point.proofs.Coordinates.{coordinates}
use Rattle.work.specs.Work.{first, others, work_words}
use Rattle.split_eq.specs.Split.{both_tables, folded}
use Rattle.plan.specs.declared.Plan.{Plan}
use Rattle.plan.specs.Plan.{plan_of, fold_of}
use Rattle.plan.proofs.OneColumn.{one_table, one_sound}
use Rattle.byte_fold.specs.Takes.{FillsBytes}
use Rattle.byte_points.specs.Few.{Few}
use Rattle.byte_points.proofs.Sizes.{whole_words, few, sized}
use Rattle.ward.specs.declared.shifted.Fold.{Fold}
use Rattle.ward.specs.Ward.{fold_answer}
use Rattle.ward.specs.Inner.{Accepts, Tables}

-- the variables of the table, and the coordinates
abbrev n : Fold → ℕ
n fold = variables (length (words fold.table.now))

abbrev k : Fold → ℕ
k fold = entries (words fold.point.now)

-- what the tests leave
pub record Tested (fold : Fold) (work out : List ℕ) : Type 0 where
  pub point_few : Few fold.point.now
  pub point_is : Coordinates (k fold) (words fold.point.now)
  pub scale_is : Reduced fold.scale
  pub small : n fold ≤ most
  pub fits : k fold ≤ n fold
  pub whole : length fold.table.now % 4 ≡ 0
  pub power : not_power (length (words fold.table.now)) ≡ false
  pub below : unreduced p (words fold.table.now) ≡ false
  pub work_room : length work ≡ 16 * (2 ^ first (k fold) + 2 ^ others (k fold))
  pub out_room : length out ≡ 16 * 2 ^ (n fold - k fold)

pub tested : {fold : Fold} {work out : List ℕ} → Accepts fold work out → Tested fold work out
unfolding fold_answer
tested a = let h = clear _ tt a.accepted in search (few, coordinates, whole_words, ltb-false, same, sized)

-- the counts as the code has them, and the point's words
module _ {fold : Fold} {work out : List ℕ} (t : Tested fold work out) {n' : ℕ} {ps : List ℕ}
    (en : n' ≡ variables (length fold.table.now / 4)) (ep : ps ≡ words fold.point.now) where
  abbrev table : List ℕ
  table = fold.table.now

  abbrev point : List ℕ
  point = fold.point.now

  abbrev k' : ℕ
  k' = length point / 4 / 4

  pub point_is : Coordinates (entries ps) ps
  point_is = rw ep t.point_is

  pub tables : {z : Point} → z.count ≡ entries ps → Tables z fold.scale work
  tables q = record { scale_is = t.scale_is; room = rw (q, ep) t.work_room }

  pub plan_takes : length ps ≤ 4 * most
  plan_takes = rw ep (omega (arith, words_length point, t.point_few.few))

  -- the plan that the code makes
  abbrev planned : Plan
  planned = plan_of n' k' 1 fold.side Shifted fold.scale ps

  pub folds : length table < 2 ^ 64 → FillsBytes planned table out
  folds fits =
      let zeros : List ℕ = replicate (4 * most - length (words point)) 0 in
      let size : length table ≡ 4 * 2 ^ n fold =
      omega (
        arith,
        t.whole,
        words_length table,
        power_of (length (words table)) (omega (arith, words_length table)) t.power,
      )
      in
      rw (en, ep, ← words_length point, ← words_length table)
      (record {
        sound = one_sound (plan_of (n fold) (k fold) 1 fold.side Shifted fold.scale (words point)) refl t.small t.fits t.scale_is
            (unreduced_append p (words point) zeros t.point_is.below (unreduced_zeros p p_pos (4 * most - length (words point))));
        one_column = refl;
        count = size ∙ ap (λ m. 4 * m) (sym (one_table (plan_of (n fold) (k fold) 1 fold.side Shifted fold.scale (words point)) refl));
        below = t.below;
        room = t.out_room;
      })

  pub filled : (z : Point) {w : List ℕ} → z.words.now ≡ ps → z.count ≡ entries ps
      → w ≡ octets (work_words z.count z.words.now (from_words fold.scale)) → w ≡ octets (both_tables (words point) fold.scale)
  filled z a b q = q ∙ rw (a, b, ep)

  pub folded_as : {o : List ℕ} → o ≡ octets (fold_of planned (words table))
      → o ≡ octets (folded fold.side Shifted (words table) (words point) fold.scale)
  folded_as q = q ∙ (rw (en, ep, words_length point, words_length table))
