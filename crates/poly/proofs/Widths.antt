-- A table of base words has an entry a word, and splits none. Assumes nothing.
use mathlib.Core.Path.{◌≡◌, refl, ap, ◌∙◌}
use Prim.Native.Nat.{ℕ, ◌%◌}
use native.Mathlib.Nat.{div-one}
use native.Mathlib.Omega.{arith}
use mathlib.Core.List.{List, ◌∷◌}
use lib.ListN.{length}
use Rattle.std.specs.Prelude.{Ok, Err}
use Rattle.field.specs.Field.{Ext, Holds}
use Rattle.field.specs.declared.Element.{Element}
use Rattle.table.specs.Refusals.{◌gives◌, number, outcome, evaluated, verdict, splits}
use Rattle.table.specs.declared.Refusal.{Refusal}
use Rattle.table.proofs.Outcomes.{refused_outcome, accepted_outcome}
use Rattle.table.proofs.Verdicts.{passing}
use Rattle.poly.specs.Values.{value_tests, base_tests}
use Rattle.poly.specs.Inner.{table_tests}

pub by_words : (table point : List ℕ) → verdict (table_tests 1 table point) ≡ verdict (base_tests table point)
by_words table point =
    let whole : length table % 1 ≡ 0 = omega arith in
    passing _ _ _ (rw whole refl) ∙ ap (λ n. verdict (splits point gives 1 ∷ value_tests n table point)) (div-one _)

-- so the answer of an evaluation of such a table
pub refused_words : (table point : List ℕ) (r : Refusal) → number r ≡ verdict (table_tests 1 table point) → (x : Ext)
    → outcome (Err r) ≡ evaluated (verdict (base_tests table point)) x
refused_words table point r h x = refused_outcome _ r (h ∙ by_words table point) x

pub accepted_words : (table point : List ℕ) → 0 ≡ verdict (table_tests 1 table point) → (x : Ext) (v : Element) → Holds v x
    → outcome (Ok v) ≡ evaluated (verdict (base_tests table point)) x
accepted_words table point h x v q = accepted_outcome _ (h ∙ by_words table point) x v q

pub ruleset words_tested = (refused_words, accepted_words)
