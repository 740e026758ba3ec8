-- Answers and what calls leave, by the answer of their tests: n is the verdict on the list. Assumes nothing.
use mathlib.Core.Path.{◌≡◌, sym, ap, ◌∙◌}
use Prim.Native.Nat.{ℕ}
use mathlib.Core.List.{List, []}
use Rattle.std.specs.Prelude.{Ok, Err}
use Rattle.algebra.specs.Words.{words_of}
use Rattle.field.specs.Field.{Ext, to_words, Holds}
use Rattle.field.specs.declared.Element.{Element}
use Rattle.table.specs.Refusals.{number, Outcome, alone, outcome, leaves, given, evaluated}
use Rattle.table.specs.declared.Refusal.{Refusal}
use Rattle.table.proofs.Answers.{kept}

-- the tests refused
module _ (n : ℕ) (r : Refusal) (h : number r ≡ n) where
  pub refused_leaves {ℓ} : {B : Type ℓ} (new old : B) → leaves n new old ≡ old
  refused_leaves new old = ap (λ m. leaves m new old) (sym h) ∙ kept new old r

  pub refused_given : (ws : List ℕ) → alone (number r) ≡ given n ws
  refused_given ws =
      ap (λ us. let o : Outcome = record { number = number r; words = us } in o) (sym (kept ws [] r)) ∙ ap (λ m. given m ws) h

  pub refused_outcome : (x : Ext) → outcome (Err r) ≡ evaluated n x
  refused_outcome x = refused_given (words_of x)

-- the tests accepted
module _ (n : ℕ) (h : 0 ≡ n) where
  pub accepted_leaves {ℓ} : {B : Type ℓ} (new old : B) → leaves n new old ≡ new
  accepted_leaves new old = ap (λ m. leaves m new old) (sym h)

  pub accepted_given : (ws : List ℕ) → record { number = 0; words = ws } ≡ given n ws
  accepted_given ws = ap (λ m. given m ws) h

  pub accepted_outcome : (x : Ext) (v : Element) → Holds v x → outcome (Ok v) ≡ evaluated n x
  unfolding to_words
  accepted_outcome x v q =
      ap (λ (w : Element). let o : Outcome = record { number = 0; words = w.c } in o) q.words ∙ accepted_given (words_of x)

pub ruleset outcomes = (refused_leaves, refused_outcome, accepted_leaves, accepted_outcome)
