-- The loop that keeps the last words: how it steps and ends. Assumes nothing.
use mathlib.Core.Path.{◌≡◌, sym, ap, ap₂, ◌∙◌}
use Prim.Native.Nat.{ℕ, suc, ◌+◌, ◌%◌, ◌≤◌, ◌<◌}
use native.Mathlib.Nat.{mod-add-mod}
use native.Mathlib.Numerals.{add-one}
use native.Mathlib.Omega.{arith}
use mathlib.Core.List.{List}
use lib.ListN.{length, get_or, drop, set, length-set}
use lib.Seq.{drop-cons, drop-length}
use Rattle.padding.specs.Last.{kept}

-- word j is next, at its place: what is left to keep, with what was kept, gives what all words give
pub record Keeping (inner taken : ℕ) (words was : List ℕ) (place : ℕ) (last : List ℕ) (j : ℕ) : Type 0 where
  pub within : j ≤ length words
  pub same : length last ≡ length was
  pub here : place ≡ (taken + j) % inner
  pub left : kept inner (taken + j) (drop j words) last ≡ kept inner taken words was

module _ {inner taken : ℕ} {words was : List ℕ} {place : ℕ} {last : List ℕ} {j : ℕ} (k : Keeping inner taken words was place last j) where
  pub turn : j < length words → {following : ℕ} → following ≡ (place + 1) % inner
      → Keeping inner taken words was following (set last place (get_or words j 0)) (j + 1)
  unfolding kept
  turn h e =
      let q : suc (taken + j) ≡ taken + (j + 1) = omega arith in
      record {
        within = omega arith;
        same = length-set last place (get_or words j 0) ∙ k.same;
        here = e ∙ ap (λ n. (n + 1) % inner) k.here ∙ mod-add-mod (taken + j) inner 1 ∙ ap (λ n. n % inner) (add-one (taken + j) ∙ q);
        left = ap₂ (λ t n. kept inner t (drop n words) (set last place (get_or words j 0))) (sym q) (add-one j)
            ∙ ap (λ i. kept inner (suc (taken + j)) (drop (suc j) words) (set last i (get_or words j 0))) k.here
            ∙ ap (λ ws. kept inner (taken + j) ws last) (sym (drop-cons words j 0 h)) ∙ k.left;
      }

  pub finish : length words ≤ j → last ≡ kept inner taken words was
  unfolding kept
  finish h =
      let e : j ≡ length words = omega (arith, k.within) in
      sym (ap (λ ws. kept inner (taken + j) ws last) (ap (λ n. drop n words) e ∙ drop-length words)) ∙ k.left
