-- Lists of tests whose front holds of nothing: the others decide, and so does a list of a call behind it. Assumes nothing.
use Rattle.std.proofs.Common.{◌≡◌, refl, sym, ◌∙◌, ℕ, List, [], ◌∷◌, ◌++◌}
use Rattle.table.specs.Refusals.{number, Test, verdict}
use Rattle.table.specs.declared.Refusal.{Refusal}
use Rattle.table.proofs.Fronts.{front_refused, front_passed}
use Rattle.table.proofs.Verdicts.{Numbered, Clear, passing}

pub cleared : (ts us : List Test) → Clear ts → verdict (ts ++ us) ≡ verdict us
cleared [] us h = refl
cleared (t ∷ ts) us h = passing t.holds t.number (ts ++ us) h.0 ∙ cleared ts us h.1

-- the tests us of a call between ts and vs
pub between_refused : (ts us vs : List Test) → Clear ts → Numbered us → (r : Refusal) → number r ≡ verdict us
    → number r ≡ verdict (ts ++ (us ++ vs))
between_refused ts us vs c n r h = front_refused us vs n r h ∙ sym (cleared ts (us ++ vs) c)

pub between_passed : (ts us vs : List Test) → Clear ts → Numbered us → 0 ≡ verdict us → {m : ℕ} → m ≡ verdict vs
    → m ≡ verdict (ts ++ (us ++ vs))
between_passed ts us vs c n h e = front_passed us vs n h e ∙ sym (cleared ts (us ++ vs) c)
