-- Runs of two machines over one list of calls. Assumes nothing.
use mathlib.Core.Path.{◌≡◌, refl, ap₂}
use Prim.Native.Nat.{ℕ, zero, suc}
use mathlib.Core.List.{List, [], ◌∷◌}
use Rattle.table.specs.Refusals.{leaves}
use Rattle.ledger.specs.Ledger.{run}

-- where from related states each call gives equal answers and leaves related states, so does every list of calls
module _ {C A S L : Type 0} (stepS : C → S → A × S) (stepL : C → L → A × L) (R : S → L → Type 0)
    (same : (c : C) (s : S) (l : L) → R s l → ((stepS c s).0 ≡ (stepL c l).0) × R (stepS c s).1 (stepL c l).1) where
  pub runs : (cs : List C) (s : S) (l : L) → R s l → ((run stepS cs s).0 ≡ (run stepL cs l).0) × R (run stepS cs s).1 (run stepL cs l).1
  runs [] s l r = (refl, r)
  runs (c ∷ cs) s l r =
      let now = same c s l r in
      let later = runs cs _ _ now.1 in
      (ap₂ (λ v vs. v ∷ vs) now.0 later.0, later.1)

-- a call that enters nothing
pub unchanged : {A : Type 0} (n : ℕ) (x : A) → leaves n x x ≡ x
unchanged zero x = refl
unchanged (suc n) x = refl

-- one call of both, with one number: refused, nothing changes in either
pub settle : {S L : Type 0} (R : S → L → Type 0) {m n : ℕ} {s s' : S} {l l' : L} → m ≡ n → R s l → (n ≡ 0 → R s' l')
    → R (leaves m s' s) (leaves n l' l)
settle R {n = n} {s} {s'} {l} {l'} e r h = rw e (go n h)
  where
    go : (n : ℕ) → (n ≡ 0 → R s' l') → R (leaves n s' s) (leaves n l' l)
    go zero h = h refl
    go (suc n) h = r
