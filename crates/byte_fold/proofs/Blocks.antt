-- The sums of a section's places gain a block of its words. Assumes nothing.
use mathlib.Core.Path.{◌≡◌, sym, ap, ◌∙◌}
use Prim.Native.Nat.{ℕ, ◌+◌, ◌*◌}
use native.Mathlib.Omega.{arith}
use mathlib.Core.List.{List, ◌++◌}
use lib.ListN.{length}
use Rattle.octets.specs.Octets.{words}
use Rattle.octets.proofs.Octets.{words_length}
use Rattle.algebra.proofs.Words.{below}
use Rattle.field.specs.Field.{p, p_pos}
use Rattle.table.proofs.Laws.{table_length}
use Rattle.table.proofs.Tests.{unreduced_table}
use Rattle.plan.specs.Plan.{places, width, capacity, fold_of, gained_by}
use Rattle.plan.specs.Sound.{Takes, Fills}
use Rattle.plan.proofs.OneColumn.{one_width}
use Rattle.plan.proofs.Joining.{joined}
use Rattle.byte_fold.specs.declared.Section.{Section}
use Rattle.byte_fold.specs.Inner.{Portion, first_words, section_at, block_at, sums_to}
use Rattle.byte_fold.proofs.Words.{first_length, first_below, first_append}

module _ (s : Section) {at count : ℕ} (b : Portion s.plan at count) {block sums : List ℕ}
    (e : block ≡ block_at s at count) (q : sums ≡ sums_to s at) where
  pub takes : Takes s.plan at block sums
  takes =
      record {
        sound = s.cut.sound;
        within = omega (arith, ap length e ∙ first_length count _, b.within);
        piece_below = rw e (first_below p count _ (λ i. below p (words s.table.now) s.cut.below p_pos _));
        room = ap length q ∙ table_length (width s.plan) _;
        out_below = rw q (unreduced_table (width s.plan) _);
      }

  pub added : {w : List ℕ} → w ≡ gained_by s.plan at block sums → w ≡ sums_to s (at + count)
  added r =
      let word : ℕ → ℕ = section_at s in
      let front : List ℕ = first_words at word in
      r ∙ ap (gained_by s.plan at block) q
      ∙ ap (λ m. gained_by s.plan m block (fold_of s.plan front)) (sym (first_length at word))
      ∙ joined s.plan front block
      ∙ ap (fold_of s.plan) (ap (λ ws. front ++ ws) e ∙ sym (first_append at count word))

-- all words of a section as one block
module _ (s : Section) {n : ℕ} (q : n ≡ capacity s.plan) {block : List ℕ} (e : block ≡ block_at s 0 n) where
  pub fills : {sums : List ℕ} → length sums ≡ 4 * places s.plan → Fills s.plan block sums
  fills l =
      record {
        sound = s.cut.sound;
        count = ap length e ∙ first_length n _ ∙ q;
        below = rw e (first_below p n _ (λ i. below p (words s.table.now) s.cut.below p_pos _));
        room = l ∙ ap (λ m. 4 * m) (sym (one_width s.plan s.cut.one_column));
      }

  -- and the bytes of its places
  pub fills_bytes : (out : List ℕ) → length out ≡ 16 * places s.plan → Fills s.plan block (words out) × (length out ≡ 16 * width s.plan)
  fills_bytes out l =
      (fills (omega (arith, words_length out)), l ∙ ap (λ m. 16 * m) (sym (one_width s.plan s.cut.one_column)))
