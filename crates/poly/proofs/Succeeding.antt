-- The last weight once more, beside what stands at row `own` of a table. Assumes nothing.
use mathlib.Core.Path.{◌≡◌, refl, ap, ◌∙◌}
use Prim.Native.Nat.{ℕ, ◌-◌, ◌<◌}
use native.Mathlib.Decide.{ℕ_discrete}
use native.Mathlib.Omega.{arith}
use mathlib.Core.List.{List}
use borrow.Author.Tests.{eq-eqb, ne_eqb}
use Rattle.field.specs.Field.{Ext, field, to_words, from_words, Holds}
use Rattle.field.specs.declared.Element.{Element}
use Rattle.field.proofs.Laws.{holds, read_as, size}
use Rattle.table.specs.Table.{get_at, put_at, table_words}
use Rattle.table.proofs.Laws.{length_put, get_put_other, get_put_same, table_length, table_words_at, table_whole}
use Rattle.poly.specs.Inner.{previous_at, successor_at}

module _ (n : ℕ) (f : ℕ → Ext) (own : ℕ) (there : own < n) {w : List ℕ} (e : w ≡ table_words n (previous_at f)) where
  -- what stands at the row
  pub kept : {k : Element} → k ≡ get_at w own → Holds k (previous_at f own)
  kept q = holds _ (q ∙ ap (λ l. get_at l own) e ∙ table_words_at n (previous_at f) own there)

  module _ (g : Element) (a : Holds g (field.add (previous_at f own) (f (n - 1)))) where
    abbrev t : List ℕ
    t = table_words n (previous_at f)

    rows : (y : ℕ) → y < n → get_at (put_at t own g) y ≡ to_words (successor_at own n f y)
    rows y h = go (ℕ_discrete y own)
      where
        go : Dec (y ≡ own) → get_at (put_at t own g) y ≡ to_words (successor_at own n f y)
        go (yes q) =
            rw (q, eq-eqb own own refl)
            (get_put_same t own g (omega (arith, table_length n (previous_at f), there)) (rw a.words (size _)) ∙ a.words)
        go (no d) = rw (ne_eqb y own d) (get_put_other t own g y d ∙ table_words_at n (previous_at f) y h)

    table : put_at t own g ≡ table_words n (successor_at own n f)
    table = table_whole n (successor_at own n f) _ (length_put t own g ∙ table_length n (previous_at f)) rows

  pub succeeded : (l k g : Element) {w' : List ℕ} → Holds l (f (n - 1)) → k ≡ get_at w own
      → Holds g (field.add (from_words k) (from_words l)) → w' ≡ put_at w own g → w' ≡ table_words n (successor_at own n f)
  succeeded l k g a q h v = rw (v, e) (table g (rw (read_as _ (kept q), read_as _ a) at h))
