-- Number and words determine the answer of fixing and summing. Assumes nothing.
use Rattle.std.specs.Prelude.{Result, Ok, Err}
use Rattle.std.proofs.Common.{◌≡◌, sym, ap, ℕ, get_or}
use Rattle.table.specs.Refusals.{Outcome}
use Rattle.table.specs.declared.Refusal.{Refusal}
use Rattle.table.proofs.Answers.{number_one, number_some}
use Rattle.fixing.specs.Fixing.{remaining_outcome}

pub remaining_one : (a b : Result ℕ Refusal) → remaining_outcome a ≡ remaining_outcome b → a ≡ b
remaining_one (Ok n) (Ok m) e = ap (λ (x : Outcome). Ok (get_or x.words 0 0)) e
remaining_one (Ok n) (Err s) e = absurd (number_some s (ap (λ (x : Outcome). x.number) e))
remaining_one (Err r) (Ok m) e = absurd (number_some r (sym (ap (λ (x : Outcome). x.number) e)))
remaining_one (Err r) (Err s) e = ap Err (number_one r s (ap (λ (x : Outcome). x.number) e))
