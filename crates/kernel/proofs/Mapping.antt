-- An array's elements, each called with: what each call asks, and what it gave. Assumes nothing.
use Rattle.std.proofs.Common.{◌<◌, ℕ, List, [], ◌∷◌, get_or, subst}
use denote.Param.Members.{Mut, Called}
use Rattle.std.specs.Array.{list_steps, IsMapOf}
use Rattle.std.specs.Iterator.{CallableAtEachTurn, Yields}
use Rattle.std.specs.List.{All}
use Rattle.std.proofs.lemmas.List.Elements.{All-rest, All-head}

module _ {A : Type 0} (P : A → Type 0) where
  -- what is left of a list has P too
  still : (xs s t : List A) → Yields list_steps s xs t → All P s → All P t
  still [] s t y a = subst (All P) y a
  still (x ∷ xs) s t y a = still xs y.0 t y.2 (All-rest P x y.0 s y.1 a)

  pub serves_each : {F : Type 0} {R : F → A → F → Type 0} {Q : F → A → Type 0} {all : List A} {f : F} → All P all → ((q : F) (x : A) → P x → Q q x)
      → CallableAtEachTurn list_steps R Q all f
  serves_each a serves = record { at = λ xs t q x u y c z. serves q x (All-head P x u (subst (All P) z (still xs _ t y a))) }

-- what holds of an element and of what a call gave for it
pub mapped : {F A B : Type 0} (g : Mut F (A × Unit {0}) B) (P : A → B → Type 0) {f : F} {xs : List A} {ys : List B} {n : ℕ}
    → ((x : A) (y : B) (p q : F) → Called g p (x, tt) y q → P x y) → IsMapOf g f xs ys n → (d : A) (e : B) (t : ℕ) → t < n
    → P (get_or xs t d) (get_or ys t e)
mapped g P gives made d e t l = let k = made.at t d e l in gives _ _ k.0 k.1 k.2
