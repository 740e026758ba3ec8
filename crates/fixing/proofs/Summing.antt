-- The sums of two halves made part by part, each after its test, and taken back where a part is refused. Assumes nothing.
use mathlib.Core.Path.{◌≡◌, refl, sym, ap, ap₂, ◌∙◌}
use mathlib.Core.Bool.{Bool, true, false, ◌||◌}
use Prim.Native.Nat.{ℕ, ◌+◌, ◌-◌, ◌*◌, ◌≤◌, ◌<◌}
use native.Mathlib.Nat.{zero-add}
use native.Mathlib.Omega.{arith}
use mathlib.Core.List.{List, [], ◌∷◌}
use lib.ListN.{drop}
use lib.Seq.{take_all, take-add, drop-drop}
use Rattle.algebra.specs.Ring.{minus}
use Rattle.algebra.specs.Words.{unreduced}
use Rattle.algebra.proofs.Words.{unreduced_append}
use Rattle.algebra.proofs.Reading.{reading, ring}
use Rattle.field.specs.Field.{p, Ext, field, to_words, from_words, Reduced}
use Rattle.field.proofs.Laws.{field_ring, reduced, read_back, words_again}
use Rattle.table.specs.Table.{get_at, element_at}
use Rattle.table.specs.Refusals.{verdict, leaves}
use Rattle.table.proofs.Laws.{get_size}
use Rattle.table.proofs.Parts.{get_lent, part_below}
use Rattle.table.proofs.Tests.{reduced_at, or_none}
use Rattle.fixing.specs.Fixing.{Sum}
use Rattle.fixing.specs.Inner.{TwoHalves, word_tests, Pairs, Made, part, paired, halved}
use Rattle.fixing.proofs.Making.{none, words_later, later, made_more, made_table}

-- the test over the parts of a list
module _ (ws : List ℕ) where
  -- an entry of a tested part is reduced
  part_reduced : (a n i : ℕ) → unreduced p (part a n ws) ≡ false → i < n → Reduced (get_at ws (a + i))
  part_reduced a n i h b = rw (get_lent a n i ws b) at (reduced_at (part a n ws) h i)

  -- a part and the one after it
  parts_joined : (a m n : ℕ) → unreduced p (part a m ws) ≡ false → unreduced p (part (a + m) n ws) ≡ false
      → unreduced p (part a (m + n) ws) ≡ false
  parts_joined a m n h k =
      let q : 4 * (m + n) ≡ 4 * m + 4 * n = omega arith in
      let r : 4 * a + 4 * m ≡ 4 * (a + m) = omega arith in
      rw (q, take-add (4 * m) (4 * n) (drop (4 * a) ws), drop-drop (4 * m) (4 * a) ws, r)
      (unreduced_append p (part a m ws) (part (a + m) n ws) h k)

cancelled : (a b : Ext) → minus field (field.add a b) b ≡ a
cancelled a b = reading field_ring (a ∷ b ∷ []) λ q. simp (ring, q, q.at 0, q.at 1) (q.close tt)

-- what one test says of another
implied : (a b : Bool) → (b ≡ false → a ≡ false) → a ≡ true → b ≡ true
implied a true f h = refl
implied a false f h = absurd (let q : a ≡ false = f refl in let z : ◌≡◌ {A = ℕ} 0 1 = cc in omega arith)

-- the parts before entry `at` of each half are reduced and summed, and all that follows is as it was
pub record Summing (h at : ℕ) (ws w : List ℕ) : Type 0 where
  pub within : at ≤ h
  pub first : unreduced p (part 0 at ws) ≡ false
  pub second : unreduced p (part h at ws) ≡ false
  pub made : Made (paired field.add h ws) 0 at ws w

pub start : (h : ℕ) (ws : List ℕ) → Summing h 0 ws ws
unfolding unreduced
start h ws = record { within = omega arith; first = refl; second = refl; made = none _ 0 ws }

-- 5, of the next n entries of each half
abbrev pub next : (h at n : ℕ) → List ℕ → Bool
next h at n ws = unreduced p (part at n ws) || unreduced p (part (h + at) n ws)

-- what sum_halves says and leaves
abbrev pub Answered : ℕ → List ℕ → ℕ → List ℕ → Type 0
Answered h ws n w = (n ≡ verdict (word_tests ws)) × (w ≡ leaves (verdict (word_tests ws)) (halved Sum h ws field.zero) ws)

module _ {h at : ℕ} {ws w : List ℕ} (t : TwoHalves h ws) (d : Summing h at ws w) where
  table_then : TwoHalves h w
  table_then = record { few = t.few; count = d.made.len ∙ t.count }

  -- the next part of each half, n entries; the test reads what was there at the start
  module _ (n : ℕ) (b : at + n ≤ h) where
    tested : next h at n w ≡ next h at n ws
    tested = rw (words_later d.made at (omega arith), words_later d.made (h + at) (omega arith))

    found : next h at n w ≡ true → unreduced p ws ≡ true
    found e =
        implied (next h at n ws) (unreduced p ws) (λ u. rw (part_below (4 * at) (4 * n) ws u, part_below (4 * (h + at)) (4 * n) ws u))
        (sym tested ∙ e)

    none_found : next h at n w ≡ false → (unreduced p (part at n ws) ≡ false) × (unreduced p (part (h + at) n ws) ≡ false)
    none_found e = or_none (unreduced p (part at n ws)) (unreduced p (part (h + at) n ws)) (sym tested ∙ e)

    -- the part of each half, reduced
    pub pairs : next h at n w ≡ false → Pairs h at (at + n) w
    pairs e =
        record {
          table = table_then;
          ordered = omega arith;
          within = b;
          below = λ i l k.
              let q : at + (i - at) ≡ i = omega arith in
              let r : h + at + (i - at) ≡ h + i = omega arith in
              let m : i - at < n = omega arith in (
                rw (later d.made i l) (rw q at (part_reduced ws at n (i - at) (none_found e).0 m)),
                rw (later d.made (h + i) (omega arith)) (rw r at (part_reduced ws (h + at) n (i - at) (none_found e).1 m)),
              );
        }

    pub turn : next h at n w ≡ false → {w₁ : List ℕ} → Made (paired field.add h w) at (at + n) w w₁ → Summing h (at + n) ws w₁
    turn e m =
        record {
          within = b;
          first = parts_joined ws 0 at n d.first (rw zero-add (none_found e).0);
          second = parts_joined ws h at n d.second (none_found e).1;
          made = made_more d.made (omega arith) (omega arith) (paired field.add h w) m
              (λ y l k.
              ap₂ (λ a b. field.add (from_words a) (from_words b)) (later d.made y l) (later d.made (h + y) (omega arith)));
        }

  -- what is summed is reduced
  pub summed_pairs : (to : ℕ) → to ≤ at → Pairs h 0 to w
  summed_pairs to b =
      record {
        table = table_then;
        ordered = omega arith;
        within = omega arith;
        below = λ i l k. (
          rw (d.made.done i (omega arith) l) (reduced (paired field.add h ws i)),
          rw (later d.made (h + i) (omega arith)) (part_reduced ws h at i d.second (omega arith)),
        );
      }

  -- the words of a summed entry, as they were
  was : (y : ℕ) → y < at → get_at ws y ≡ to_words (element_at ws y)
  was y b = words_again (get_at ws y) (get_size ws y) (rw zero-add at (part_reduced ws 0 at y d.first b))

  undone : (y : ℕ) → y < at → paired (minus field) h w y ≡ element_at ws y
  undone y b =
      rw (d.made.done y b (omega arith), later d.made (h + y) (omega arith), read_back (paired field.add h ws y))
      (cancelled (element_at ws y) (element_at ws (h + y)))

  taken_back : {w₁ : List ℕ} → Made (paired (minus field) h w) 0 at w w₁ → w₁ ≡ ws
  taken_back {w₁} m =
      made_table at (element_at ws) ws w₁
      (record {
        len = m.len ∙ d.made.len;
        before = λ y b. absurd (omega arith);
        done = λ y b l. m.done y b l ∙ ap to_words (undone y b);
        after = m.after ∙ d.made.after;
      })
      (omega arith)
      ∙ sym
      (made_table at (element_at ws) ws ws
      (record { len = refl; before = λ y b. refl; done = λ y b l. was y b; after = refl })
      (omega arith))

  pub refused : (n : ℕ) → at + n ≤ h → next h at n w ≡ true → {w₁ : List ℕ} → Made (paired (minus field) h w) 0 at w w₁ → Answered h ws 5 w₁
  unfolding verdict
  refused n b e m = rw (found n b e) (refl, taken_back m)

  pub finish : at ≡ h → Answered h ws 0 w
  unfolding verdict
  finish q =
      let u : unreduced p (part 0 (h + h) ws) ≡ false =
      parts_joined ws 0 h h (rw q at d.first) (rw zero-add (rw q at d.second)) in
      rw (rw (take_all (4 * (h + h)) ws (omega arith)) at u)
      (refl, made_table h (paired field.add h ws) ws w (rw q at d.made) (omega arith))
