-- The bytes of elements written one after another: how that starts, steps and ends. Assumes nothing.
use mathlib.Core.Path.{◌≡◌, sym, ap, ◌∙◌}
use Prim.Native.Nat.{ℕ, ◌+◌, ◌-◌, ◌*◌, ◌/◌, ◌≤◌, ◌<◌}
use native.Mathlib.Nat.{add-zero}
use native.Mathlib.Omega.{arith}
use mathlib.Core.List.{List, append-nil}
use lib.ListN.{length}
use borrow.Rule.Slice.PartMut.{put_mid}
use Rattle.octets.specs.Octets.{words, octets}
use Rattle.octets.proofs.Octets.{words_length, octets_length, octets_append}
use Rattle.algebra.specs.Words.{words_of}
use Rattle.field.specs.Field.{Ext, to_words, Holds}
use Rattle.field.specs.declared.Element.{Element}
use Rattle.table.specs.Table.{entries, table_words}
use Rattle.table.proofs.Laws.{table_length, table_append}
use Rattle.piece.proofs.Fronts.{Front, front_start, front_turn, front_end}

-- the bytes of the first i elements stand in front
pub record Put (f : ℕ → Ext) (i : ℕ) (was out : List ℕ) : Type 0 where
  pub within : i ≤ length was / 16
  pub front : Front (16 * i) (octets (table_words i f)) was out

one : (g : ℕ → Ext) (x : Ext) → g 0 ≡ x → table_words 1 g ≡ words_of x
unfolding table_words
one g x q = append-nil (words_of (g 0)) ∙ ap words_of q

module _ (f : ℕ → Ext) where
  pub start : (was : List ℕ) → Put f 0 was was
  unfolding octets table_words
  start was = record { within = omega arith; front = front_start was }

  element : {e : Element} (i : ℕ) → Holds e (f i) → e.c ≡ table_words 1 (λ j. f (i + j))
  unfolding to_words
  element i h = ap (λ (e : Element). e.c) h.words ∙ sym (one (λ j. f (i + j)) (f i) (ap f (add-zero i)))

  there : (was : List ℕ) (i : ℕ) → i < length was / 16 → 16 * i + 16 ≤ length was
  there was i h = omega arith

  pub turn : (i : ℕ) {was out ys : List ℕ} {e : Element} → Put f i was out → i < length was / 16 → Holds e (f i) → ys ≡ octets e.c
      → Put f (i + 1) was (put_mid (16 * i) (16 * i + 16 - 16 * i) out ys)
  turn i {was} {out} {ys} d l h q =
      let next : 16 * (i + 1) ≡ 16 * i + 16 = omega arith in
      let more : ℕ → Ext = λ j. f (i + j) in
      let row : ys ≡ octets (table_words 1 more) = q ∙ ap octets (element i h) in
      let size : length ys ≡ 16 = omega (arith, ap length row, octets_length (table_words 1 more), table_length 1 more) in
      record {
        within = omega arith;
        front = rw (next, table_append i 1 f, octets_append, ← row) (front_turn d.front 16 (there was i l) ys size);
      }

  pub finish : {i : ℕ} (n : ℕ) {was out : List ℕ} → Put f i was out → length was / 16 ≤ i → length was ≡ 16 * n
      → out ≡ octets (table_words n f)
  finish {i} n d l q = let e : i ≡ n = omega (arith, d.within) in front_end (rw e at d.front) q

-- as many elements as the bytes have
pub counted : (bs : List ℕ) → length bs / 16 ≡ entries (words bs)
counted bs = omega (arith, words_length bs)
