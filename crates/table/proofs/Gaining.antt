-- What words gain: nothing, one element more, the places that follow, sum after sum, and the table that they become. Assumes nothing.
use mathlib.Core.Path.{◌≡◌, refl, sym, ap, ap₂, ◌∙◌}
use mathlib.Core.Logic.{◌≢◌}
use mathlib.Core.Bool.{false}
use Prim.Native.Nat.{ℕ, ◌+◌, ◌-◌, ◌*◌, ◌≤◌, ◌<◌}
use native.Mathlib.Decide.{dec_lt}
use native.Mathlib.Nat.{zero-add as Nat·zero-add}
use native.Mathlib.Omega.{arith}
use mathlib.Core.List.{List}
use lib.ListN.{length, replicate, length-replicate}
use borrow.Author.Count.{below_more}
use Rattle.algebra.specs.Words.{unreduced}
use Rattle.algebra.proofs.Ring.{zero_add}
use Rattle.field.specs.Field.{p, Ext, field, to_words, from_words, Reduced, Holds}
use Rattle.field.specs.declared.Element.{Element}
use Rattle.field.proofs.Laws.{field_ring, reduced, read_back, size, words_again}
use Rattle.table.specs.Table.{get_at, put_at, element_at, table_words}
use Rattle.table.specs.Gained.{Gained}
use Rattle.table.proofs.Laws.{length_put, get_put_other, get_put_same, get_size, table_whole, table_ext}
use Rattle.table.proofs.Parts.{unreduced_put, get_zeros}
use Rattle.table.proofs.Tests.{reduced_at}

-- over no elements
pub none : (from : ℕ) (g : ℕ → Ext) (ws : List ℕ) → Gained from 0 g ws ws
none from g ws = record { len = refl; gained = λ y h. absurd (omega arith); before = λ y h. refl; after = λ y h. refl; below = λ h. h }

-- zero, over reduced elements
pub nothing : (from n : ℕ) (ws : List ℕ) → ((y : ℕ) → y < n → Reduced (get_at ws (from + y))) → Gained from n (λ y. field.zero) ws ws
nothing from n ws r =
    record {
      len = refl;
      gained = λ y h.
          words_again (get_at ws (from + y)) (get_size ws (from + y)) (r y h)
          ∙ ap to_words (sym (field_ring.add_zero (element_at ws (from + y))));
      before = λ y h. refl;
      after = λ y h. refl;
      below = λ h. h;
    }

-- of functions that agree below n
pub gained_as : {from n : ℕ} {f : ℕ → Ext} (g : ℕ → Ext) {ws w : List ℕ} → Gained from n f ws w → ((y : ℕ) → y < n → f y ≡ g y)
    → Gained from n g ws w
gained_as {from} g {ws} d e =
    record {
      len = d.len;
      gained = λ y h. d.gained y h ∙ ap (λ x. to_words (field.add (element_at ws (from + y)) x)) (e y h);
      before = d.before;
      after = d.after;
      below = d.below;
    }

-- the next element is as it was
pub unchanged : {from i : ℕ} {g : ℕ → Ext} {ws w : List ℕ} → Gained from i g ws w → get_at w (from + i) ≡ get_at ws (from + i)
unchanged {from} {i} d = d.after (from + i) (omega arith)

-- one element more
module _ (from i : ℕ) (g : ℕ → Ext) (ws w : List ℕ) (d : Gained from i g ws w) (l : 4 * (from + i) + 3 < length ws) where
  abbrev sum : Element
  sum = to_words (field.add (element_at ws (from + i)) (g i))

  kept : (y : ℕ) → y ≢ from + i → get_at (put_at w (from + i) sum) y ≡ get_at w y
  kept y h = get_put_other w (from + i) sum y h

  step : Gained from (i + 1) g ws (put_at w (from + i) sum)
  step =
      record {
        len = length_put w (from + i) sum ∙ d.len;
        gained = below_more (λ y. get_at (put_at w (from + i) sum) (from + y) ≡ to_words (field.add (element_at ws (from + y)) (g y))) i
            (λ y h. kept (from + y) (λ q. omega arith) ∙ d.gained y h)
            (get_put_same w (from + i) sum (omega (arith, d.len)) (size _));
        before = λ y h. kept y (λ q. omega arith) ∙ d.before y h;
        after = λ y h. kept y (λ q. omega arith) ∙ d.after y (omega arith);
        below = λ h. unreduced_put w (from + i) (reduced _) (d.below h);
      }

  -- of the values that the calls of a turn give, at the place that the code names
  pub turn : (place : ℕ) → place ≡ from + i → (v u : Ext) {e : Element} {w' : List ℕ} → v ≡ element_at w place → u ≡ g i
      → Holds e (field.add v u) → w' ≡ put_at w place e → Gained from (i + 1) g ws w'
  turn place q v u e₁ e₂ e₃ e₄ = rw (e₄, e₃.words, e₁, e₂, q, unchanged d) step

-- f, and then g over the same elements
pub added : {from n : ℕ} {f g : ℕ → Ext} {ws w w' : List ℕ} → Gained from n f ws w → Gained from n g w w'
    → Gained from n (λ y. field.add (f y) (g y)) ws w'
added {from} {n} {f} {g} {ws} {w} {w'} a b =
    record {
      len = b.len ∙ a.len;
      gained = λ y h.
          b.gained y h
          ∙ ap to_words (ap (λ x. field.add x (g y)) (ap from_words (a.gained y h) ∙ read_back _) ∙ field_ring.add_assoc _ _ _);
      before = λ y h. b.before y h ∙ a.before y h;
      after = λ y h. b.after y h ∙ a.after y h;
      below = λ h. b.below (a.below h);
    }

-- m elements, and then the n that follow
pub blocks : (from m n : ℕ) (f g : ℕ → Ext) (ws w w' : List ℕ) → Gained from m g ws w → Gained (from + m) n f w w'
    → ((y : ℕ) → y < n → f y ≡ g (m + y)) → Gained from (m + n) g ws w'
blocks from m n f g ws w w' a b e =
    record {
      len = b.len ∙ a.len;
      gained = λ y h. go y h (dec_lt y m);
      before = λ y h. b.before y (omega arith) ∙ a.before y h;
      after = λ y h. b.after y (omega arith) ∙ a.after y (omega arith);
      below = λ h. b.below (a.below h);
    }
  where
    go : (y : ℕ) → y < m + n → Dec (y < m) → get_at w' (from + y) ≡ to_words (field.add (element_at ws (from + y)) (g y))
    go y h (yes l) = b.before (from + y) (omega arith) ∙ a.gained y l
    go y h (no l) =
        let q : m + (y - m) ≡ y = omega arith in
        let r : from + m + (y - m) ≡ from + y = omega arith in
        let here = rw r at (b.gained (y - m) (omega arith)) in
        here ∙ ap₂ (λ v x. to_words (field.add (from_words v) x)) (a.after (from + y) (omega arith)) (e (y - m) (omega arith) ∙ ap g q)

-- the other elements gain zero
pub widened_to : {from n m : ℕ} {f : ℕ → Ext} (g : ℕ → Ext) {ws w : List ℕ} → Gained from n f ws w → unreduced p ws ≡ false
    → from + n ≤ m → ((y : ℕ) → y < n → f y ≡ g (from + y)) → ((y : ℕ) → y < from → g y ≡ field.zero)
    → ((y : ℕ) → from + n ≤ y → y < m → g y ≡ field.zero) → Gained 0 m g ws w
widened_to {from} {n} {m} {f} g {ws} {w} d r fits e none_before none_after =
    record {
      len = d.len;
      gained = λ y h. rw Nat·zero-add (go y h (dec_lt y from) (dec_lt y (from + n)));
      before = λ y h. absurd (omega arith);
      after = λ y h. d.after y (omega arith);
      below = d.below;
    }
  where
    same : (y : ℕ) → get_at w y ≡ get_at ws y → g y ≡ field.zero → get_at w y ≡ to_words (field.add (element_at ws y) (g y))
    same y k z =
        k ∙ words_again (get_at ws y) (get_size ws y) (reduced_at ws r y)
        ∙ ap to_words (sym (ap (field.add (element_at ws y)) z ∙ field_ring.add_zero (element_at ws y)))

    go : (y : ℕ) → y < m → Dec (y < from) → Dec (y < from + n) → get_at w y ≡ to_words (field.add (element_at ws y) (g y))
    go y l (yes h) _ = same y (d.before y h) (none_before y h)
    go y l (no h) (no k) = same y (d.after y (omega arith)) (none_after y (omega arith) l)
    go y l (no h) (yes k) =
        let q : from + (y - from) ≡ y = omega arith in
        let here = rw q at (d.gained (y - from) (omega arith)) in
        here ∙ ap (λ x. to_words (field.add (element_at ws y) x)) (e (y - from) (omega arith) ∙ ap g q)

pub widened : {from n m : ℕ} {f : ℕ → Ext} (g : ℕ → Ext) {ws w : List ℕ} → Gained from n f ws w → unreduced p ws ≡ false
    → from + n ≤ m → ((y : ℕ) → y < n → f y ≡ g (from + y)) → ((y : ℕ) → y < from → g y ≡ field.zero)
    → ((y : ℕ) → from + n ≤ y → g y ≡ field.zero) → Gained 0 m g ws w
widened g d r fits e none_before none_after = widened_to g d r fits e none_before (λ y h l. none_after y h)

-- words that gained from their start to their end are a table
pub gained_table : (m : ℕ) (g : ℕ → Ext) (ws w : List ℕ) → Gained 0 m g ws w → length ws ≡ 4 * m
    → w ≡ table_words m (λ y. field.add (element_at ws y) (g y))
gained_table m g ws w d l =
    table_whole m (λ y. field.add (element_at ws y) (g y)) w (d.len ∙ l) (λ y h. rw Nat·zero-add at (d.gained y h))

-- and words of zeros are the table of what they gained
pub zeros_table : (m n : ℕ) → n ≡ 4 * m → {ws : List ℕ} → ws ≡ replicate n 0 → (g : ℕ → Ext) (w : List ℕ) → Gained 0 m g ws w
    → w ≡ table_words m g
zeros_table m n l {ws} e g w d =
    gained_table m g ws w d (omega (arith, ap length e, length-replicate {A = ℕ} n 0))
    ∙ table_ext m _ g (λ y h.
    ap (λ v. field.add (element_at v y) (g y)) e
    ∙ ap (λ v. field.add (from_words v) (g y)) (get_zeros n y)
    ∙ ap (λ x. field.add x (g y)) (read_back _) ∙ zero_add field_ring (g y))
