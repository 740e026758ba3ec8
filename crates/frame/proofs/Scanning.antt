-- A line of digits alone, by its length and its characters. Assumes nothing.
use mathlib.Core.Path.{◌≡◌, refl, ap, ◌∙◌}
use mathlib.Core.Bool.{Bool, true, false, ◌&&◌}
use Prim.Native.Nat.{ℕ, ◌%◌}
use native.Mathlib.Omega.{arith}
use mathlib.Core.List.{List, [], ◌∷◌}
use lib.ListN.{length}
use Rattle.std.specs.List.{list_all}
use Rattle.std.proofs.Math.Bool.{and-false}
use Rattle.frame.specs.Hex.{is_digit, is_hex}

and_assoc : (a b c : Bool) → a && b && c ≡ a && (b && c)
and_assoc true b c = refl
and_assoc false b c = refl

pub even : (line : List ℕ) → length line % 2 ≡ 0 → is_hex line ≡ list_all is_digit line
unfolding is_hex
even [] h = refl
even (c ∷ []) h = let no : ⊥ = omega arith in absurd no
even (c ∷ d ∷ cs) h =
    and_assoc (is_digit c) (is_digit d) (is_hex cs)
    ∙ ap (λ (t : Bool). is_digit c && (is_digit d && t)) (even cs (omega arith))

pub odd : (line : List ℕ) → (length line % 2 ≡ 0 → ⊥) → is_hex line ≡ false
unfolding is_hex
odd [] h = absurd (h refl)
odd (c ∷ []) h = refl
odd (c ∷ d ∷ cs) h = rw (odd cs (λ e. h (omega arith))) (and-false (is_digit c && is_digit d))
