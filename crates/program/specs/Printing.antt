-- What is printed, however the input is cut into blocks, for readers. Assumes nothing.
use Rattle.std.specs.Prelude.{◌≡◌, ℕ, List, [], ◌∷◌, ◌++◌, length, take}
use Rattle.program.specs.Printed.{printed, told}
use Rattle.program.specs.Blocks.{Feeding, begun, fed, said, end_text}

-- the input that blocks make
abbrev pub joined : List (List ℕ) → List ℕ
joined [] = []
joined (block ∷ blocks) = block ++ joined blocks

-- what blocks leave, one after another
abbrev pub after : Feeding → List (List ℕ) → Feeding
after f [] = f
after f (block ∷ blocks) = after (fed f block) blocks

-- and their texts, joined
abbrev pub texts : Feeding → List (List ℕ) → List ℕ
texts f [] = []
texts f (block ∷ blocks) = said f block ++ texts (fed f block) blocks

-- for every list of blocks, empty ones among them
pub record Printing : Type 0 where
  -- after them the texts are what the lines print that have ended: at `04` the out lines stand in the text of its own block
  pub so_far : (blocks : List (List ℕ)) → texts begun blocks ≡ told (joined blocks)
  -- and with the text of the input's end they are all that is printed
  pub whole : (blocks : List (List ℕ)) → texts begun blocks ++ end_text (after begun blocks) ≡ printed (joined blocks)
  -- nothing is told too early: whatever comes after an input, what it tells is printed first
  pub known : (input more : List ℕ) → take (length (told input)) (printed (input ++ more)) ≡ told input
