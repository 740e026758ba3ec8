-- Lists of tests one behind the other, as a session's go: the answer of the first, and then of the others; and what a record's sizes are
-- behind its tests. Assumes nothing.
use Rattle.std.proofs.Common.{◌≡◌, refl, sym, ℕ, ◌≤◌, Bool, true, false, List, [], ◌∷◌, ◌++◌, ltb}
use borrow.Author.Tests.{ltb-false}
use mathlib.Core.Bool.{cond}
use Rattle.std.specs.Prelude.{◌||◌}
use Rattle.table.specs.Refusals.{Test, ◌gives◌, number, verdict, most, most_columns}
use Rattle.table.specs.declared.Refusal.{Refusal}
use Rattle.table.proofs.Answers.{number_some}
use Rattle.table.proofs.Verdicts.{Numbered, Clear, clear}
use Rattle.plan.specs.Plan.{most_on, capacity}
use Rattle.plan.proofs.Columns.{few_columns}
use Rattle.ledger.specs.declared.Session.{Session}
use Rattle.ledger.specs.Session.{State, record_tests}
use Rattle.session.specs.Inner.{ready_tests}

-- the first list refuses
pub refused : (ts us : List Test) (r : Refusal) → number r ≡ verdict ts → number r ≡ verdict (ts ++ us)
unfolding verdict
refused ts us r e = given ts (number r) (number_some r) e
  where
    given : (ts : List Test) (m : ℕ) → (0 ≡ m → ⊥) → m ≡ verdict ts → m ≡ verdict (ts ++ us)
    given [] m h e = absurd (h (sym e))
    given (t ∷ ts) m h e = one t.holds t.number (given ts m h) e
      where
        one : (b : Bool) (n : ℕ) → (m ≡ verdict ts → m ≡ verdict (ts ++ us)) → m ≡ cond b n (verdict ts)
            → m ≡ cond b n (verdict (ts ++ us))
        one true n f e = e
        one false n f e = f e

-- the first list accepts
pub accepted : (ts us : List Test) → Numbered ts → 0 ≡ verdict ts → verdict (ts ++ us) ≡ verdict us
unfolding verdict
accepted ts us n e = past ts (clear ts n e)
  where
    past : (ts : List Test) → Clear ts → verdict (ts ++ us) ≡ verdict us
    past [] h = refl
    past (t ∷ ts) h = rw h.0 (past ts h.1)

-- two tests that give one number, taken as one
pub either_holds : (a b : Bool) (n : ℕ) (ts : List Test) → (a || b) ≡ true → verdict (a gives n ∷ b gives n ∷ ts) ≡ n
unfolding verdict
either_holds true b n ts e = refl
either_holds false b n ts e = rw e refl

pub neither_holds : (a b : Bool) (n : ℕ) (ts : List Test) → (a || b) ≡ false → verdict (a gives n ∷ b gives n ∷ ts) ≡ verdict ts
unfolding verdict
neither_holds true b n ts e = absurd (cc)
neither_holds false b n ts e = rw e refl

pub ruleset either = (either_holds, neither_holds)

-- the sizes of a record that is not broken
pub record Sizes (s : Session) : Type 0 where
  pub small : s.plan.n ≤ most
  pub fits : s.plan.k ≤ s.plan.n
  pub few_columns : s.plan.columns ≤ most_columns
  pub room : s.taken ≤ capacity s.plan

sizes : (s : Session) → ltb most s.plan.n ≡ false → ltb s.plan.n s.plan.k ≡ false → ltb (most_on s.plan.side) s.plan.columns ≡ false
    → ltb (capacity s.plan) s.taken ≡ false → Sizes s
sizes s n k c taken =
    record {
      small = ltb-false _ _ n;
      fits = ltb-false _ _ k;
      few_columns = few_columns s.plan.side s.plan.columns (ltb-false _ _ c);
      room = ltb-false _ _ taken;
    }

pub of_record : (s : Session) → 0 ≡ verdict (record_tests s) → Sizes s
of_record s e =
    let h = clear (record_tests s) tt e in
    sizes s h.0 h.1.0 h.1.1.1.0 h.1.1.1.1.0

pub of_ready : (st : State) → 0 ≡ verdict (ready_tests st) → Sizes st.session
of_ready st e =
    let h = clear (ready_tests st) tt e in
    sizes st.session h.0 h.1.0 h.1.1.1.0 h.1.1.1.1.0
