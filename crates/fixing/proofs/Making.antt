-- Entries made one after the other: how a loop over them starts, steps and ends. Assumes nothing.
use mathlib.Core.Path.{◌≡◌, refl, sym, ap, ◌∙◌}
use mathlib.Core.Bool.{Bool, true, false}
use Prim.Native.Nat.{ℕ, ◌+◌, ◌-◌, ◌*◌, ◌≤◌, ◌<◌}
use native.Mathlib.Omega.{arith}
use mathlib.Core.List.{List, ◌++◌}
use lib.Dec.{ltb}
use lib.ListN.{length, drop}
use lib.Seq.{drop-drop}
use borrow.Author.Count.{below_more}
use borrow.Author.Tests.{ltb-true, ltb-false}
use Rattle.field.specs.Field.{Ext, to_words, Holds}
use Rattle.field.specs.declared.Element.{Element}
use Rattle.field.proofs.Laws.{size}
use Rattle.table.specs.Table.{get_at, put_at, table_words}
use Rattle.table.proofs.Laws.{table_of, length_put, drop_put, get_put_other, get_put_same}
use Rattle.table.proofs.Parts.{get_drop}
use Rattle.fixing.specs.Inner.{Made}

pub none : (g : ℕ → Ext) (from : ℕ) (ws : List ℕ) → Made g from from ws ws
none g from ws = record { len = refl; before = λ y l. refl; done = λ y b l. absurd (omega arith); after = refl }

module _ {g : ℕ → Ext} {from i : ℕ} {ws w : List ℕ} (d : Made g from i ws w) where
  -- from entry i on all is as it was
  pub words_later : (m : ℕ) → i ≤ m → drop (4 * m) w ≡ drop (4 * m) ws
  words_later m l =
      let q : 4 * m ≡ 4 * i + 4 * (m - i) = omega arith in
      rw q (sym (drop-drop (4 * (m - i)) (4 * i) w) ∙ ap (drop (4 * (m - i))) d.after ∙ drop-drop (4 * (m - i)) (4 * i) ws)

  pub later : (y : ℕ) → i ≤ y → get_at w y ≡ get_at ws y
  later y l =
      let q : y ≡ i + (y - i) = omega arith in
      rw q (sym (get_drop i (y - i) w) ∙ ap (λ zs. get_at zs (y - i)) d.after ∙ get_drop i (y - i) ws)

  -- an entry more
  pub turn : from ≤ i → 4 * i + 3 < length ws → {e : Element} {w₁ : List ℕ} → Holds e (g i) → w₁ ≡ put_at w i e → Made g from (i + 1) ws w₁
  turn l m {e} h q =
      let s : length e.c ≡ 4 = ap (λ (x : Element). length x.c) h.words ∙ size (g i) in
      rw q
      (record {
        len = length_put w i e ∙ d.len;
        before = λ y b. get_put_other w i e y (λ k. omega arith) ∙ d.before y b;
        done = below_more (λ y. from ≤ y → get_at (put_at w i e) y ≡ to_words (g y)) i
            (λ y b k. get_put_other w i e y (λ z. omega arith) ∙ d.done y b k)
            (λ k. get_put_same w i e (omega (arith, d.len)) s ∙ h.words);
        after = drop_put w i e (4 * (i + 1)) (omega arith) ∙ words_later (i + 1) (omega arith);
      })

-- entries from..mid made, and then mid..to
module _ {g : ℕ → Ext} {from mid : ℕ} {ws w : List ℕ} (d : Made g from mid ws w) where
  pub made_more : {to : ℕ} {w₁ : List ℕ} → mid ≤ to → from ≤ mid → (g₁ : ℕ → Ext) → Made g₁ mid to w w₁
      → ((y : ℕ) → mid ≤ y → y < to → g₁ y ≡ g y) → Made g from to ws w₁
  made_more {to} {w₁} l k g₁ m e =
      record {
        len = m.len ∙ d.len;
        before = λ y b. m.before y (omega arith) ∙ d.before y b;
        done = λ y b a. go y b a (ltb y mid) refl;
        after = m.after ∙ words_later d to l;
      }
    where
      go : (y : ℕ) → y < to → from ≤ y → (t : Bool) → ltb y mid ≡ t → get_at w₁ y ≡ to_words (g y)
      go y b a true q = let h : y < mid = ltb-true y mid q in m.before y h ∙ d.done y h a
      go y b a false q = let h : mid ≤ y = ltb-false y mid q in m.done y b h ∙ ap to_words (e y h b)

-- the first n entries made are a table, before the words that followed
pub made_table : (n : ℕ) (g : ℕ → Ext) (ws w : List ℕ) → Made g 0 n ws w → 4 * n ≤ length ws → w ≡ table_words n g ++ drop (4 * n) ws
made_table n g ws w d l =
    table_of n g w (omega (arith, d.len)) (λ y b. d.done y b (omega arith)) ∙ ap (λ zs. table_words n g ++ zs) d.after
