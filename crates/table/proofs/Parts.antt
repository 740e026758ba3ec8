-- The laws of `put_at`, `get_at` and `elements` that zeros and the parts of a list need. Assumes nothing.
use mathlib.Core.Path.{◌≡◌, refl, sym, ap, ap₂, ◌∙◌}
use mathlib.Core.Bool.{false}
use Prim.Native.Nat.{ℕ, zero, suc, ◌+◌, ◌-◌, ◌*◌, ◌≤◌, ◌<◌}
use native.Mathlib.Nat.{zero-add, add-zero, add-suc}
use native.Mathlib.Omega.{arith}
use mathlib.Core.List.{List, [], ◌∷◌, ◌++◌, append-nil}
use borrow.Rule.Slice.PartMut.{put_mid, Post-is}
use lib.ListN.{length, get_or, take, drop, replicate, length-append, length-drop, length-replicate, get_or-append}
use lib.Seq.{drop-length, get_or-drop, get_or-take, length-take-le, sets-eq, take_all, take_at}
use Rattle.algebra.specs.Words.{unreduced}
use Rattle.field.specs.Field.{p, p_pos, field, at, to_words, from_words, Reduced}
use Rattle.field.specs.declared.Element.{Element}
use Rattle.field.proofs.Laws.{four, word_below, zero_law}
use Rattle.table.specs.Table.{table_words, get_at, put_at, element_at, elements}
use Rattle.table.proofs.Laws.{table_whole}
use Rattle.algebra.proofs.Words.{unreduced_drop, unreduced_set, unreduced_take}

-- a put: the words before element i, its own, and those after it
pub put_parts : (ws : List ℕ) (i : ℕ) (e : Element) → 4 * i + 4 ≤ length ws → length e.c ≡ 4
    → put_at ws i e ≡ take (4 * i) ws ++ e.c ++ drop (4 * i + 4) ws
unfolding put_at
put_parts ws i e h l =
    let vs : List ℕ = at e 0 ∷ at e 1 ∷ at e 2 ∷ at e 3 ∷ [] in
    let q1 : 4 * i + 1 ≡ suc (4 * i) = omega arith in
    let q2 : 4 * i + 2 ≡ suc (suc (4 * i)) = omega arith in
    let q3 : 4 * i + 3 ≡ suc (suc (suc (4 * i))) = omega arith in
    rw (q1, q2, q3) (sets-eq vs ws (4 * i) h) ∙ ap (λ x. take (4 * i) ws ++ x ++ drop (4 * i + 4) ws) (sym (four e.c l))

-- an element put keeps the words reduced
pub unreduced_put : (ws : List ℕ) (i : ℕ) {e : Element} → Reduced e → unreduced p ws ≡ false → unreduced p (put_at ws i e) ≡ false
unfolding put_at
unreduced_put ws i r h =
    unreduced_set p p_pos _ _ _ (word_below r 3)
    (unreduced_set p p_pos _ _ _ (word_below r 2)
    (unreduced_set p p_pos _ _ _ (word_below r 1) (unreduced_set p p_pos _ _ _ (word_below r 0) h)))

-- each element of words of zeros is zero
word_zero : (n i : ℕ) → ◌≡◌ {A = ℕ} (get_or (replicate n 0) i 0) 0
word_zero zero i = refl
word_zero (suc n) zero = refl
word_zero (suc n) (suc i) = word_zero n i

pub get_zeros : (n i : ℕ) → get_at (replicate n 0) i ≡ to_words field.zero
unfolding get_at
get_zeros n i = rw (word_zero n (4 * i), word_zero n (4 * i + 1), word_zero n (4 * i + 2), word_zero n (4 * i + 3)) zero_law

-- a table of zeros
pub table_zeros : (n : ℕ) → replicate (4 * n) 0 ≡ table_words n (λ i. field.zero)
table_zeros n = table_whole n _ (replicate (4 * n) 0) (length-replicate (4 * n) 0) (λ i h. get_zeros (4 * n) i)

-- past the first a elements the elements are a indices further
pub get_drop : (a i : ℕ) (ws : List ℕ) → get_at (drop (4 * a) ws) i ≡ get_at ws (a + i)
unfolding get_at
get_drop a i ws =
    let q0 : 4 * a + 4 * i ≡ 4 * (a + i) = omega arith in
    let q1 : 4 * a + (4 * i + 1) ≡ 4 * (a + i) + 1 = omega arith in
    let q2 : 4 * a + (4 * i + 2) ≡ 4 * (a + i) + 2 = omega arith in
    let q3 : 4 * a + (4 * i + 3) ≡ 4 * (a + i) + 3 = omega arith in
    simp get_or-drop (rw (q1, q2, q3, q0))

pub elements_drop : (a b m : ℕ) (ws : List ℕ) → elements (drop (4 * a) ws) b m ≡ elements ws (a + b) m
unfolding elements
elements_drop a b zero ws = refl
elements_drop a b (suc m) ws =
    ap₂ (λ e zs. from_words e ∷ zs) (get_drop a b ws) (elements_drop a (suc b) m ws ∙ ap (λ c. elements ws c m) (add-suc a b))

-- a list lent from word a on
module _ (a : ℕ) (ws : List ℕ) where
  abbrev pub after : List ℕ
  after = take (length ws - a) (drop a ws)

  pub after_is : after ≡ drop a ws
  after_is = take_all (length ws - a) (drop a ws) (omega (arith, length-drop a ws))

  pub after_length : length after ≡ length ws - a
  after_length = ap length after_is ∙ length-drop a ws

  pub after_below : unreduced p ws ≡ false → unreduced p after ≡ false
  after_below h = rw after_is (unreduced_drop p p_pos a ws h)

  pub after_word : (i : ℕ) → get_or after i 0 ≡ get_or ws (a + i) 0
  after_word i = ap (λ l. get_or l i 0) after_is ∙ get_or-drop a ws i 0

-- a list lent from element a on: its words are reduced, and its elements are those from a on
module _ (a : ℕ) (ws : List ℕ) where
  abbrev pub rest : List ℕ
  rest = after (4 * a) ws

  pub rest_length : length rest ≡ length ws - 4 * a
  rest_length = after_length (4 * a) ws

  pub rest_below : unreduced p ws ≡ false → unreduced p rest ≡ false
  rest_below = after_below (4 * a) ws

  pub rest_get : (i : ℕ) → get_at rest i ≡ get_at ws (a + i)
  rest_get i = ap (λ l. get_at l i) (after_is (4 * a) ws) ∙ get_drop a i ws

-- the first n elements are those of a list lent up to element n
pub get_take : (n i : ℕ) (ws : List ℕ) → i < n → get_at (take (4 * n) ws) i ≡ get_at ws i
unfolding get_at
get_take n i ws h =
    rw (
      get_or-take (4 * n) ws (4 * i) 0 (omega arith),
      get_or-take (4 * n) ws (4 * i + 1) 0 (omega arith),
      get_or-take (4 * n) ws (4 * i + 2) 0 (omega arith),
      get_or-take (4 * n) ws (4 * i + 3) 0 (omega arith),
    )

-- element i of n elements lent from element a on
pub get_lent : (a n i : ℕ) (ws : List ℕ) → i < n → get_at (take (4 * n) (drop (4 * a) ws)) i ≡ get_at ws (a + i)
get_lent a n i ws h = get_take n i (drop (4 * a) ws) h ∙ get_drop a i ws

-- n words lent from word a on
module _ (a n : ℕ) (ws : List ℕ) where
  pub part_length : a + n ≤ length ws → length (take n (drop a ws)) ≡ n
  part_length h = length-take-le n (drop a ws) (omega (arith, length-drop a ws))

  pub part_word : (i : ℕ) → i < n → get_or (take n (drop a ws)) i 0 ≡ get_or ws (a + i) 0
  part_word i h = get_or-take n (drop a ws) i 0 h ∙ get_or-drop a ws i 0

  pub part_below : unreduced p ws ≡ false → unreduced p (take n (drop a ws)) ≡ false
  part_below h = unreduced_take p p_pos n (drop a ws) (unreduced_drop p p_pos a ws h)

-- a list whose first a words, and then the others, were lent and came back
pub both_parts : (a : ℕ) (w x y : List ℕ) {x₁ y₁ : List ℕ} → a ≤ length w → length x ≡ length (take a w) → x ≡ x₁ → y ≡ y₁
    → put_mid a (length (x ++ drop a w) - a) (x ++ drop a w) y ≡ x₁ ++ y₁
both_parts a w x y h l e₁ e₂ =
    let n : length x ≡ a = l ∙ length-take-le a w h in
    let within : a ≤ length (x ++ drop a w) = omega (arith, length-append x (drop a w)) in
    (rw (Post-is a (length (x ++ drop a w)) (x ++ drop a w) within, drop-length, append-nil, take_at x (drop a w) a n, e₁, e₂))

pub elements_append : (ws : List ℕ) (a m n : ℕ) → elements ws a (m + n) ≡ elements ws a m ++ elements ws (a + m) n
unfolding elements
elements_append ws a zero n = rw (zero-add, add-zero)
elements_append ws a (suc m) n =
    let q : suc m + n ≡ suc (m + n) = omega arith in
    let r : suc a + m ≡ a + suc m = omega arith in
    rw q (ap (λ zs. element_at ws a ∷ zs) (elements_append ws (suc a) m n ∙ ap (λ b. elements ws (suc a) m ++ elements ws b n) r))

-- the elements in two parts, the last `low` apart
pub elements_cut : (ws : List ℕ) (a : ℕ) {n low : ℕ} → low ≤ n → elements ws a (n - low) ++ elements ws (a + (n - low)) low ≡ elements ws a n
elements_cut ws a {n} {low} h =
    let q : n - low + low ≡ n = omega arith in
    sym (elements_append ws a (n - low) low) ∙ ap (elements ws a) q

-- the first elements are the same, whatever words follow
get_front : (ws r : List ℕ) (i : ℕ) → 4 * i + 3 < length ws → get_at (ws ++ r) i ≡ get_at ws i
unfolding get_at
get_front ws r i h =
    rw (
      get_or-append ws r 0 (4 * i) (omega arith),
      get_or-append ws r 0 (4 * i + 1) (omega arith),
      get_or-append ws r 0 (4 * i + 2) (omega arith),
      get_or-append ws r 0 (4 * i + 3) (omega arith),
    )

pub elements_front : (ws r : List ℕ) (a m : ℕ) → 4 * (a + m) ≤ length ws → elements (ws ++ r) a m ≡ elements ws a m
unfolding elements
elements_front ws r a zero h = refl
elements_front ws r a (suc m) h =
    ap₂ (λ e zs. from_words e ∷ zs) (get_front ws r a (omega arith)) (elements_front ws r (suc a) m (omega arith))
