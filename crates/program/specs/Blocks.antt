-- The program's state, fed the input byte by byte: what a block leaves, and the text that it gives to print. Assumes nothing.
use Rattle.std.specs.Prelude.{ℕ, zero, suc, ◌*◌, ◌^◌, Bool, true, false, cond, List, [], ◌∷◌, ◌++◌, eqb, take, replicate, Option}
use Rattle.plan.specs.Plan.{width}
use Rattle.frame.specs.declared.Frame.{Frame}
use Rattle.frame.specs.Frame.{frame_of, most_line}
use Rattle.runs.specs.Reader.{most_places}
use Rattle.runs.specs.State.{State, number_of, step}
use Rattle.runs.specs.Runs as runs
use Rattle.program.specs.Printed.{line_feed, out_lines, at_close, unless_refused, end_line}

-- the most text of a block: the lines of 2^10 elements, and a refusal's
abbrev pub most_text : ℕ
most_text = 33797

-- the state between bytes: what the lines so far left, whether one was refused, and what is held of the line that has not ended
pub record Feeding : Type 0 where
  pub state : State
  pub stopped : Bool
  pub held : List ℕ

-- a program that was fed: what it holds, and what it has to print
pub record Fed : Type 0 where
  pub feeding : Feeding
  pub text : List ℕ

-- before the first line: room for 2^10 elements, and for the last word of as many places
abbrev pub start_state : State
start_state = runs.start (replicate (4 * 2 ^ most_places) 0) (replicate (2 ^ most_places) 0)

-- before the first byte
abbrev pub begun : Feeding
begun = record { state = start_state; stopped = false; held = [] }

unfoldable pub is_refused : ℕ → Bool
is_refused zero = false
is_refused (suc n) = true

-- the line that is held has ended
abbrev pub line_ended : Feeding → Feeding
line_ended f = record { state = step f.held f.state; stopped = is_refused (number_of f.state f.held); held = [] }

-- more bytes of it
abbrev pub holding : Feeding → List ℕ → Feeding
holding f bytes = record { state = f.state; stopped = f.stopped; held = take most_line (f.held ++ bytes) }

-- what an accepted line prints: at `04` out, as it leaves it
abbrev pub close_text : Option Frame → State → List ℕ
close_text x s = at_close x (out_lines (width s.reader.session.plan) s.out)

-- what a line prints
abbrev pub line_text : State → List ℕ → List ℕ
line_text s line = unless_refused (number_of s line) (close_text (frame_of line) (step line s))

-- one byte: a line feed ends the line; after a refusal nothing is read
abbrev pub byte_step : Feeding → ℕ → Feeding
byte_step f b = cond f.stopped f (cond (eqb b line_feed) (line_ended f) (holding f (b ∷ [])))

abbrev pub byte_text : Feeding → ℕ → List ℕ
byte_text f b = cond f.stopped [] (cond (eqb b line_feed) (line_text f.state f.held) [])

-- a block, byte by byte: what it leaves, and its text
unfoldable pub fed : Feeding → List ℕ → Feeding
fed f [] = f
fed f (b ∷ bs) = fed (byte_step f b) bs

unfoldable pub said : Feeding → List ℕ → List ℕ
said f [] = []
said f (b ∷ bs) = byte_text f b ++ said (byte_step f b) bs

-- the input ends: a last line that lacks its line feed is taken as if it had one, and without `04` there is 9
abbrev pub closing : Feeding → List ℕ
closing f = cond f.stopped [] (end_line f.state.reader)

unfoldable pub end_text : Feeding → List ℕ
end_text f = last_text f.held
  where
    last_text : List ℕ → List ℕ
    last_text [] = closing f
    last_text (b ∷ bs) = byte_text f line_feed ++ closing (byte_step f line_feed)
