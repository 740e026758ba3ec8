-- The loop of `double`: how it steps. Assumes nothing.
use mathlib.Core.Path.{◌≡◌, ◌∙◌}
use mathlib.Core.Logic.{◌≢◌}
use Prim.Native.Nat.{ℕ, ◌+◌, ◌*◌, ◌≤◌, ◌<◌}
use native.Mathlib.Omega.{arith}
use mathlib.Core.List.{List}
use lib.ListN.{length}
use borrow.Author.Count.{below_more}
use Rattle.algebra.specs.Ring.{minus}
use Rattle.field.specs.Field.{Ext, field, to_words, from_words, Holds}
use Rattle.field.specs.declared.Element.{Element}
use Rattle.field.proofs.Laws.{read_as, size}
use Rattle.table.specs.Table.{get_at, put_at, element_at}
use Rattle.table.proofs.Laws.{length_put, get_put_other, get_put_same}
use Rattle.point.specs.Inner.{Doubled}

module _ (n i : ℕ) (z : Ext) (ws w : List ℕ) (d : Doubled n i z ws w) (m : i < n) (l : 8 * n ≤ length ws) where
  abbrev hi : Element
  hi = to_words (field.mul (element_at ws i) z)

  abbrev lo : Element
  lo = to_words (minus field (element_at ws i) (field.mul (element_at ws i) z))

  abbrev w₁ : List ℕ
  w₁ = put_at w (n + i) hi

  kept : (y : ℕ) → y ≢ i → y ≢ n + i → get_at (put_at w₁ i lo) y ≡ get_at w y
  kept y a b = get_put_other w₁ i lo y a ∙ get_put_other w (n + i) hi y b

  step : Doubled n (i + 1) z ws (put_at w₁ i lo)
  step = record {
    within = omega arith;
    len = length_put w₁ i lo ∙ length_put w (n + i) hi ∙ d.len;
    low = below_more (λ y. get_at (put_at w₁ i lo) y ≡ to_words (minus field (element_at ws y) (field.mul (element_at ws y) z))) i
        (λ y h. kept y (λ p. omega arith) (λ p. omega arith) ∙ d.low y h)
        (get_put_same w₁ i lo (omega (arith, length_put w (n + i) hi, d.len)) (size _));
    mid = λ y h k. kept y (λ p. omega arith) (λ p. omega arith) ∙ d.mid y (omega arith) k;
    high = below_more (λ y. get_at (put_at w₁ i lo) (n + y) ≡ to_words (field.mul (element_at ws y) z)) i
        (λ y h. kept (n + y) (λ p. omega arith) (λ p. omega arith) ∙ d.high y h)
        (get_put_other w₁ i lo (n + i) (λ p. omega arith) ∙ get_put_same w (n + i) hi (omega (arith, d.len)) (size _));
  }

  -- of the values that the calls of a turn give
  pub turn : (c v h : Element) {k : Element} {w₂ w₃ : List ℕ} → z ≡ from_words c → v ≡ get_at w i
      → Holds h (field.mul (from_words v) (from_words c)) → Holds k (minus field (from_words v) (from_words h))
      → w₂ ≡ put_at w (n + i) h → w₃ ≡ put_at w₂ i k → Doubled n (i + 1) z ws w₃
  turn c v h e₁ e₂ e₃ e₄ e₅ e₆ =
      rw (e₆, e₅, e₄.words, read_as _ e₃, e₃.words, e₂, ← e₁, d.mid i (omega arith) m) step
