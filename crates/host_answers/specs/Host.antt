-- What the calls of the host library take and answer, beside what the operations promise. Assumes nothing.
use Rattle.std.specs.Prelude.{ℕ, List, [], ◌∷◌, Result, Ok, Err}
use Rattle.field.specs.declared.Element.{Element}
use Rattle.table.specs.Refusals.{number, Outcome, alone, leaves}
use Rattle.table.specs.declared.Refusal.{Refusal}

-- the element of four numbers
abbrev pub element_of : ℕ → ℕ → ℕ → ℕ → Element
element_of a b c d = record { c = a ∷ b ∷ c ∷ d ∷ [] }

-- a number, and the words after the call that were lent for an answer
unfoldable pub answered : ℕ → List ℕ → Outcome
answered n words = record { number = n; words = words }

-- an operation's answer, put into words that are lent: they are as they were where the call is refused
unfoldable pub shown : Outcome → List ℕ → Outcome
shown o was = record { number = o.number; words = leaves o.number o.words was }

-- what is lent for a value, after a call that gave this answer: it is as it was where the call is refused
abbrev pub given_to : {A : Type 0} → Result A Refusal → A → A
given_to (Ok value) was = value
given_to (Err r) was = was

-- number and words of an answer that gives a count
abbrev pub listed : Result ℕ Refusal → Outcome
listed (Ok n) = record { number = 0; words = n ∷ [] }
listed (Err r) = alone (number r)
