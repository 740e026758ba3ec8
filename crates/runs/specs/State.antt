-- The reader with its out and its last words beside it, and lines one after another. Assumes nothing.
use Rattle.std.specs.Prelude.{ℕ, List}
use Rattle.frame.specs.Frame.{frame_of}
use Rattle.runs.specs.declared.Reader.{Reader}
use Rattle.runs.specs.Reader.{line_answer, turned, out_after, last_after}

pub record State : Type 0 where
  pub reader : Reader
  pub out : List ℕ
  pub last : List ℕ

-- a line's number
abbrev pub number_of : State → List ℕ → ℕ
number_of s line = line_answer s.reader (frame_of line)

-- after a line
abbrev pub step : List ℕ → State → State
step line s =
    record {
      reader = (turned s.reader (frame_of line)).1;
      out = out_after s.reader (frame_of line) s.out s.last;
      last = last_after s.reader (frame_of line) s.last;
    }
