-- Calls at each index of an array, by a closure that they leave as it is. Assumes nothing.
use Rattle.std.proofs.Common.{◌≡◌, ◌+◌, ◌≤◌, ◌<◌, ℕ, zero, suc, List, get_or, refl, subst, sym, arith}
use native.Mathlib.Decide.{dec_lt}
use denote.Param.Members.{Mut, Called}
use Rattle.std.specs.Iterator.{CallableAtEachTurn}
use Rattle.std.specs.Array.{index_steps, IsFromFnResult, IsFromFnResultFrom}
use Rattle.std.proofs.lemmas.Fn.{serves_by}

pub serves_index : {P : Type 0} {R : P → ℕ → P → Type 0} {Q : P → ℕ → Type 0} {n : ℕ} {p : P} → ((x : ℕ) (q : P) → R p x q → q ≡ p)
    → ((x : ℕ) → x < n → Q p x) → CallableAtEachTurn (index_steps n) R Q 0 p
serves_index {P} {R} {Q} {n} {p} same called =
    serves_by R (λ xs q. q ≡ p) (λ xs q x v j r. same x v (subst (λ (s : P). R s x v) j r)) (index_steps n) Q 0 p refl
    (λ xs t q x u ys st j. subst (λ (s : P). Q s x) (sym j) (called x (omega (arith, st.0, st.1))))

-- what the calls gave
module _ {F B : Type 0} (g : Mut F (ℕ × Unit {0}) B) (P : ℕ → B → Type 0) (n : ℕ) {f : F} (ys : List B)
    (gives : (i : ℕ) (y : B) (q : F) → i < n → Called g f (i, tt) y q → (q ≡ f) × P i y) (d : B) where
  given_from : (i m : ℕ) {q : F} → q ≡ f → i + m ≤ n → IsFromFnResultFrom g q ys i m → (k : ℕ) → i ≤ k → k < i + m → P k (get_or ys k d)
  given_from i zero e l each k low high = absurd (omega arith)
  given_from i (suc m) {q} e l each k low high =
      let here : (each.0 ≡ f) × P i each.1 =
      gives i each.1 each.0 (omega arith) (subst (λ (s : F). Called g s (i, tt) each.1 each.0) e each.3) in
      go (subst (P i) (sym (each.2.1 d)) here.1)
      (λ j. given_from (i + 1) m here.0 (omega arith) each.4 k j (omega arith)) (dec_lt i k)
    where
      go : P i (get_or ys i d) → (i + 1 ≤ k → P k (get_or ys k d)) → Dec (i < k) → P k (get_or ys k d)
      go here later (yes j) = later (omega arith)
      go here later (no j) = let e : i ≡ k = omega arith in subst (λ (z : ℕ). P z (get_or ys z d)) e here

  pub each_given : IsFromFnResult g f ys n → (k : ℕ) → k < n → P k (get_or ys k d)
  each_given made k l = given_from 0 n refl (omega arith) made.each k (omega arith) (omega arith)
