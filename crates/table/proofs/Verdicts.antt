-- A list of tests gone through one by one gives its verdict, and what an accepted list says. Assumes nothing.
use mathlib.Core.Path.{◌≡◌, refl, ap, ◌∙◌}
use mathlib.Core.Bool.{Bool, true, false, cond}
use Prim.Native.Nat.{ℕ, zero, suc}
use native.Mathlib.Omega.{arith}
use mathlib.Core.List.{List, [], ◌∷◌, ◌++◌}
use Rattle.table.specs.Refusals.{Test, ◌gives◌, number, answer, verdict}
use Rattle.table.specs.declared.Refusal.{Refusal}
use Rattle.std.specs.Prelude.{Result, Ok, Err, IsErr, IsErrAnd, MatchResult}

-- A, where n is not 0
abbrev Unless : ℕ → Type 0 → Type 0
Unless zero A = ⊥
Unless (suc n) A = A

-- no test gives 0: `tt` for a list that is written out
abbrev pub Numbered : List Test → Type 0
Numbered [] = Unit
Numbered (t ∷ ts) = Unless t.number (Numbered ts)

-- the tests of a list, one by one: one that holds is the verdict, and one that doesn't leaves it to the others
pub holding : (b : Bool) (n : ℕ) (ts : List Test) → b ≡ true → verdict (b gives n ∷ ts) ≡ n
unfolding verdict
holding b n ts e = rw e refl

pub passing : (b : Bool) (n : ℕ) (ts : List Test) → b ≡ false → verdict (b gives n ∷ ts) ≡ verdict ts
unfolding verdict
passing b n ts e = rw e refl

pub passed : verdict [] ≡ 0
unfolding verdict
passed = refl

-- the last test's answer is the list's
pub passed_on : (b : Bool) (f : Refusal) (a : Result Unit Refusal) → MatchResult a (λ _. b ≡ false) (λ e. (b ≡ true) × (e ≡ f))
    → answer a ≡ verdict (b gives number f ∷ [])
unfolding verdict
passed_on b f (Ok _) h = rw h refl
passed_on b f (Err e) h = rw (h.0, h.1) refl

-- a refusal that `?` gives on
pub given_on : {A : Type 0} (a : Result A Refusal) (r : Refusal) → IsErr a × IsErrAnd a (λ e. e ≡ r) → {n : ℕ} → number r ≡ n → answer a ≡ n
given_on (Ok _) r h e = absurd (cc)
given_on (Err s) r h e = ap number h.1 ∙ e

pub ruleset tests = (holding, passing, passed, passed_on)

-- no test holds
abbrev pub Clear : List Test → Type 0
Clear [] = Unit
Clear (t ∷ ts) = (t.holds ≡ false) × Clear ts

pub clear : (ts : List Test) → Numbered ts → 0 ≡ verdict ts → Clear ts
unfolding verdict
clear [] h e = tt
clear (t ∷ ts) h e = go t.holds t.number h e (clear ts)
  where
    go : (b : Bool) (n : ℕ) → Unless n (Numbered ts) → 0 ≡ cond b n (verdict ts) → (Numbered ts → 0 ≡ verdict ts → Clear ts)
        → (b ≡ false) × Clear ts
    go b zero h e f = absurd h
    go true (suc n) h e f = absurd (omega arith)
    go false (suc n) h e f = (refl, f h e)

-- tests behind one that holds do not count
pub behind : (b : Bool) (n : ℕ) (ts us : List Test) → (b ≡ false → verdict ts ≡ verdict us) → verdict (b gives n ∷ ts) ≡ verdict (b gives n ∷ us)
unfolding verdict
behind true n ts us h = refl
behind false n ts us h = h refl

pub behind_all : (ts us vs : List Test) → (Clear ts → verdict us ≡ verdict vs) → verdict (ts ++ us) ≡ verdict (ts ++ vs)
unfolding verdict
behind_all [] us vs h = h tt
behind_all (t ∷ ts) us vs h = behind t.holds t.number (ts ++ us) (ts ++ vs) (λ e. behind_all ts us vs (λ c. h (e, c)))
