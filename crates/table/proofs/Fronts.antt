-- The verdict of a list of tests, by the answer on its front. Assumes nothing.
use mathlib.Core.Path.{◌≡◌, refl, sym, ap, ◌∙◌}
use mathlib.Core.Bool.{Bool, true, false, cond}
use Prim.Native.Nat.{ℕ, zero, suc}
use mathlib.Core.List.{List, [], ◌∷◌, ◌++◌}
use Rattle.table.specs.Refusals.{number, Test, ◌gives◌, verdict, leaves}
use Rattle.table.specs.declared.Refusal.{Refusal}
use Rattle.table.proofs.Answers.{kept}
use Rattle.table.proofs.Verdicts.{Numbered}

-- tests us behind the tests ts
pub front : (ts us : List Test) → Numbered ts → verdict (ts ++ us) ≡ leaves (verdict ts) (verdict us) (verdict ts)
unfolding verdict
front [] us h = refl
front (t ∷ ts) us h = go t.holds t.number h (front ts us)
  where
    go : (b : Bool) (n : ℕ) → Numbered (b gives n ∷ ts)
        → (Numbered ts → verdict (ts ++ us) ≡ leaves (verdict ts) (verdict us) (verdict ts))
        → cond b n (verdict (ts ++ us)) ≡ leaves (cond b n (verdict ts)) (verdict us) (cond b n (verdict ts))
    go b zero h ih = absurd h
    go true (suc n) h ih = refl
    go false (suc n) h ih = ih h

-- the front refuses
pub front_refused : (ts us : List Test) → Numbered ts → (r : Refusal) → number r ≡ verdict ts → number r ≡ verdict (ts ++ us)
front_refused ts us n r h =
    sym (kept (verdict us) (number r) r) ∙ ap (λ m. leaves m (verdict us) m) h ∙ sym (front ts us n)

-- the front accepts: the others decide
pub front_passed : (ts us : List Test) → Numbered ts → 0 ≡ verdict ts → {n : ℕ} → n ≡ verdict us → n ≡ verdict (ts ++ us)
front_passed ts us n h e = e ∙ ap (λ m. leaves m (verdict us) m) h ∙ sym (front ts us n)
