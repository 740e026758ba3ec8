-- What is lent for a value, after an accepted and a refused call. Assumes nothing.
use Rattle.std.proofs.Common.{◌≡◌, refl, ℕ, List, [], ◌∷◌}
use Rattle.std.specs.Prelude.{Result, Ok, Err, IsOkAnd, MatchResult}
use Rattle.field.specs.declared.Element.{Element}
use Rattle.table.specs.Refusals.{number, answer, Outcome, outcome, alone}
use Rattle.table.specs.declared.Refusal.{Refusal}
use Rattle.table.proofs.Answers.{kept}
use Rattle.host_answers.specs.Host.{answered, shown, given_to, listed}

-- an accepted call, whose value has these words
accepted : (words was : List ℕ) → answered 0 words ≡ shown (record { number = 0; words = words }) was
unfolding answered shown
accepted words was = refl

refused : (r : Refusal) (was : List ℕ) → answered (number r) was ≡ shown (alone (number r)) was
unfolding answered shown
refused r was = rw (kept [] was r) refl

-- an answer m with the words of what r has, given to words that are lent: `gives` says what the value of m is
module _ {A : Type 0} (words : A → List ℕ) (told : Result A Refusal → Outcome)
    (value : (x : A) → told (Ok x) ≡ record { number = 0; words = words x }) (none : (e : Refusal) → told (Err e) ≡ alone (number e)) where
  pub shown_as : {Gives : A → List ℕ → Type 0} (r : Result A Refusal) (m : Result (List ℕ) Refusal) (was : List ℕ)
      → MatchResult r (λ x. IsOkAnd m (Gives x)) (λ e. m ≡ Err e) → ((x : A) (ws : List ℕ) → Gives x ws → ws ≡ words x)
      → answered (answer m) (given_to m was) ≡ shown (told r) was
  shown_as (Ok x) (Ok ws) was h gives = rw (value x, gives x ws h) (accepted (words x) was)
  shown_as (Ok x) (Err e) was h gives = absurd h
  shown_as (Err e) m was h gives = rw (none e, h) (refused e was)

-- an element's words
pub shown_words : {Gives : Element → List ℕ → Type 0} (r : Result Element Refusal) (m : Result (List ℕ) Refusal) (was : List ℕ)
    → MatchResult r (λ x. IsOkAnd m (Gives x)) (λ e. m ≡ Err e) → ((x : Element) (ws : List ℕ) → Gives x ws → ws ≡ x.c)
    → answered (answer m) (given_to m was) ≡ shown (outcome r) was
shown_words = shown_as (λ (x : Element). x.c) outcome (λ x. refl) (λ e. refl)

-- a count, which is lent alone
pub shown_listed : (m : Result ℕ Refusal) (was : ℕ) {n new : ℕ} {o : Outcome} → listed m ≡ o → n ≡ answer m → new ≡ given_to m was
    → answered n (new ∷ []) ≡ shown o (was ∷ [])
shown_listed (Ok count) was e a g = rw (a, g, ← e) (accepted (count ∷ []) (was ∷ []))
shown_listed (Err r) was e a g = rw (a, g, ← e) (refused r (was ∷ []))
