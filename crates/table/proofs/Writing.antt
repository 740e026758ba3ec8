-- Words written element by element, from the first on: how that starts, steps and ends. Assumes nothing.
use mathlib.Core.Path.{◌≡◌, refl, ◌∙◌}
use Prim.Native.Nat.{ℕ, ◌+◌, ◌*◌, ◌<◌}
use native.Mathlib.Omega.{arith}
use mathlib.Core.List.{List}
use lib.ListN.{length}
use borrow.Author.Count.{below_more}
use Rattle.field.specs.Field.{Ext, to_words, Holds}
use Rattle.field.specs.declared.Element.{Element}
use Rattle.field.proofs.Laws.{size}
use Rattle.table.specs.Table.{get_at, put_at, table_words}
use Rattle.table.proofs.Laws.{length_put, get_put_other, get_put_same, table_whole}

-- the first i elements are those of g
pub record Written (g : ℕ → Ext) (i : ℕ) (ws w : List ℕ) : Type 0 where
  pub len : length w ≡ length ws
  pub holds : (y : ℕ) → y < i → get_at w y ≡ to_words (g y)

module _ (g : ℕ → Ext) where
  pub start : (ws : List ℕ) → Written g 0 ws ws
  start ws = record { len = refl; holds = λ y h. absurd (omega arith) }

  pub turn : (i : ℕ) (ws w : List ℕ) {e : Element} {w' : List ℕ} → Written g i ws w → 4 * i + 3 < length ws → Holds e (g i)
      → w' ≡ put_at w i e → Written g (i + 1) ws w'
  turn i ws w {e} d l h q =
      rw q
      (record {
        len = length_put w i e ∙ d.len;
        holds = below_more (λ y. get_at (put_at w i e) y ≡ to_words (g y)) i
            (λ y b. get_put_other w i e y (λ z. omega arith) ∙ d.holds y b)
            (get_put_same w i e (omega (arith, d.len)) (rw h.words (size (g i))) ∙ h.words);
      })

  pub finish : (n : ℕ) {ws w : List ℕ} → Written g n ws w → length ws ≡ 4 * n → w ≡ table_words n g
  finish n {ws} {w} d l = table_whole n g w (d.len ∙ l) d.holds
