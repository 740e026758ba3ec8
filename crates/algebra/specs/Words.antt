-- Words and elements of the extension of the residues modulo m: four words, the coordinate of 1 first. Assumes nothing.
use Rattle.std.specs.Prelude.{ℕ, ◌<◌, Bool, false, ◌||◌, List, [], ◌∷◌, leb}
use Rattle.algebra.specs.Residue.{Residue, reduce}
use Rattle.algebra.specs.Quartic.{Quartic}

-- the words of an element
unfoldable pub words_of : {m : ℕ} → Quartic (Residue m) → List ℕ
words_of x = x.x₀.val ∷ x.x₁.val ∷ x.x₂.val ∷ x.x₃.val ∷ []

-- the element of four numbers
unfoldable pub numbers : (m : ℕ) → 0 < m → ℕ → ℕ → ℕ → ℕ → Quartic (Residue m)
numbers m pos a b c d = record { x₀ = reduce m pos a; x₁ = reduce m pos b; x₂ = reduce m pos c; x₃ = reduce m pos d }

-- a word is not below m
unfoldable pub unreduced : ℕ → List ℕ → Bool
unreduced m [] = false
unreduced m (w ∷ ws) = leb m w || unreduced m ws
