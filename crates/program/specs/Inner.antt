-- What the private functions give. No operation that users call cites it. Assumes nothing.
use Rattle.std.specs.Prelude.{ℕ, cond, List, [], ◌∷◌, ◌++◌, eqb}
use Rattle.plan.specs.Plan.{width}
use Rattle.runs.specs.declared.Reader.{Reader}
use Rattle.runs.specs.Phases.{is_done}
use Rattle.program.specs.Printed.{line_feed, out_lines}
use Rattle.program.specs.Blocks.{Feeding, Fed, line_ended, line_text}

-- the bytes before the first line feed
unfoldable pub until_feed : List ℕ → List ℕ
until_feed [] = []
until_feed (b ∷ bs) = cond (eqb b line_feed) [] (b ∷ until_feed bs)

-- what the held line prints
abbrev pub text_of : Feeding → List ℕ
text_of f = line_text f.state f.held

-- what is printed after an accepted line
abbrev pub done_text : Reader → List ℕ → List ℕ
done_text r out = cond (is_done r.phase) (out_lines (width r.session.plan) out) []

-- a line that has ended
abbrev pub ended : Fed → Fed
ended s = record { feeding = line_ended s.feeding; text = s.text ++ text_of s.feeding }

-- the line that is held has ended, if there is one
abbrev pub last_ended : Fed → Fed
last_ended s = cond s.feeding.stopped s (some s.feeding.held)
  where
    some : List ℕ → Fed
    some [] = s
    some (b ∷ bs) = ended s
