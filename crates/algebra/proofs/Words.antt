-- The laws of words below a modulus: how the test goes over a list, and what it says of each word. Assumes nothing.
use mathlib.Core.Path.{◌≡◌, refl, ap, ◌∙◌}
use mathlib.Core.Bool.{Bool, true, false, ◌||◌}
use Prim.Native.Nat.{ℕ, zero, suc, ◌+◌, ◌<◌}
use native.Mathlib.Numerals.{add-one}
use native.Mathlib.Omega.{arith}
use mathlib.Core.List.{List, [], ◌∷◌, ◌++◌}
use lib.Dec.{leb}
use lib.ListN.{length, get_or, take, drop, set, replicate}
use lib.Seq.{drop-cons, drop-length, get_or-drop}
use borrow.Author.Tests.{leb-false, lt-leb}
use Rattle.algebra.specs.Residue.{Residue}
use Rattle.algebra.specs.Quartic.{Quartic}
use Rattle.algebra.specs.Words.{words_of, unreduced}

or_left : (a b : Bool) → a || b ≡ false → a ≡ false
or_left true b h = h
or_left false b h = refl

or_right : (a b : Bool) → a || b ≡ false → b ≡ false
or_right true b h = absurd (let z : ◌≡◌ {A = ℕ} 0 1 = cc in omega arith)
or_right false b h = h

pub or_false : (a : Bool) → a || false ≡ a
or_false true = refl
or_false false = refl

or_onward : (a b c : Bool) → a || (b || c) ≡ (a || b) || c
or_onward true b c = refl
or_onward false b c = refl

module _ (m : ℕ) where
  -- a loop over the words ws, at word i
  module _ (ws : List ℕ) (i : ℕ) (h : i < length ws) where
    -- with what was found before
    pub onward : (found : Bool) → found || unreduced m (drop i ws) ≡ (found || leb m (get_or ws i 0)) || unreduced m (drop (i + 1) ws)
    unfolding unreduced
    onward true = refl
    onward false = rw (add-one, drop-cons ws i 0 h) refl

  pub ended : (ws : List ℕ) (i : ℕ) → i ≡ length ws → unreduced m (drop i ws) ≡ false
  unfolding unreduced
  ended ws i e = rw (e, drop-length ws)

  -- where the test does not hold, each word is below m
  pub below : (ws : List ℕ) → unreduced m ws ≡ false → 0 < m → (i : ℕ) → get_or ws i 0 < m
  unfolding unreduced
  below [] h pos i = pos
  below (w ∷ ws) h pos zero = leb-false m w (or_left (leb m w) (unreduced m ws) h)
  below (w ∷ ws) h pos (suc i) = below ws (or_right (leb m w) (unreduced m ws) h) pos i

  pub unreduced_cons : (w : ℕ) (ws : List ℕ) → w < m → unreduced m ws ≡ false → unreduced m (w ∷ ws) ≡ false
  unfolding unreduced
  unreduced_cons w ws h e = rw (lt-leb m w h, e)

  -- one word more
  pub unreduced_push : (ws : List ℕ) (w : ℕ) → unreduced m (ws ++ (w ∷ [])) ≡ unreduced m ws || leb m w
  unfolding unreduced
  unreduced_push [] w = or_false (leb m w)
  unreduced_push (v ∷ ws) w = ap (λ (b : Bool). leb m v || b) (unreduced_push ws w) ∙ or_onward (leb m v) (unreduced m ws) (leb m w)

  pub unreduced_append : (xs ys : List ℕ) → unreduced m xs ≡ false → unreduced m ys ≡ false → unreduced m (xs ++ ys) ≡ false
  unfolding unreduced
  unreduced_append [] ys a b = b
  unreduced_append (x ∷ xs) ys a b =
      rw (or_left (leb m x) (unreduced m xs) a) (unreduced_append xs ys (or_right (leb m x) (unreduced m xs) a) b)

  -- where each word is below m, the test does not hold
  pub each_below : (ws : List ℕ) → ((i : ℕ) → get_or ws i 0 < m) → unreduced m ws ≡ false
  unfolding unreduced
  each_below [] h = refl
  each_below (w ∷ ws) h = unreduced_cons w ws (h 0) (each_below ws (λ i. h (suc i)))

  module _ (pos : 0 < m) where
    pub unreduced_drop : (n : ℕ) (ws : List ℕ) → unreduced m ws ≡ false → unreduced m (drop n ws) ≡ false
    unreduced_drop n ws h = each_below (drop n ws) (λ i. rw (get_or-drop n ws i 0) (below ws h pos (n + i)))

    pub unreduced_take : (n : ℕ) (ws : List ℕ) → unreduced m ws ≡ false → unreduced m (take n ws) ≡ false
    unfolding unreduced
    unreduced_take zero ws h = refl
    unreduced_take (suc n) [] h = refl
    unreduced_take (suc n) (w ∷ ws) h =
        unreduced_cons w (take n ws) (below (w ∷ ws) h pos 0) (unreduced_take n ws (each_below ws (λ i. below (w ∷ ws) h pos (suc i))))

    pub unreduced_set : (ws : List ℕ) (i v : ℕ) → v < m → unreduced m ws ≡ false → unreduced m (set ws i v) ≡ false
    unfolding unreduced
    unreduced_set [] i v b h = h
    unreduced_set (w ∷ ws) zero v b h = unreduced_cons v ws b (each_below ws (λ i. below (w ∷ ws) h pos (suc i)))
    unreduced_set (w ∷ ws) (suc i) v b h =
        unreduced_cons w (set ws i v) (below (w ∷ ws) h pos 0)
        (unreduced_set ws i v b (each_below ws (λ j. below (w ∷ ws) h pos (suc j))))

    pub unreduced_zeros : (n : ℕ) → unreduced m (replicate n 0) ≡ false
    unfolding unreduced
    unreduced_zeros zero = refl
    unreduced_zeros (suc n) = unreduced_cons 0 (replicate n 0) pos (unreduced_zeros n)

-- the words of an element are below the modulus
pub words_reduced : {m : ℕ} (x : Quartic (Residue m)) → unreduced m (words_of x) ≡ false
unfolding words_of unreduced
words_reduced {m} x =
    rw (lt-leb m x.x₀.val x.x₀.below, lt-leb m x.x₁.val x.x₁.below, lt-leb m x.x₂.val x.x₂.below, lt-leb m x.x₃.val x.x₃.below)
