-- The program as a function, from its whole input to its whole output (document 01, "Frames"; document 02, request (d), for the table that
-- is folded at `04`). Assumes nothing.
use Rattle.std.specs.Prelude.{ℕ, zero, suc, cond, List, [], ◌∷◌, ◌++◌, eqb, take, drop, Option, Some, None}
use Rattle.table.specs.Refusals.{leaves}
use Rattle.plan.specs.declared.Plan.{Plan}
use Rattle.plan.specs.Plan.{width, fold_of}
use Rattle.padding.specs.Padding.{padded_table}
use Rattle.frame.specs.declared.Frame.{Frame}
use Rattle.frame.specs.declared.Frame.TheVariants.{Open, Coordinate, Words, Close}
use Rattle.frame.specs.Hex.{byte_digits, word_digits}
use Rattle.frame.specs.Frame.{frame_of}
use Rattle.runs.specs.declared.Reader.{Reader}
use Rattle.runs.specs.Phases.{is_done}
use Rattle.runs.specs.Reader.{line_answer, started, turned}
use Rattle.runs.specs.Runs.{words_by}

abbrev pub line_feed : ℕ
line_feed = 10

-- "One frame a line": a line feed ends a line. The lines that end in the input, `held` being what came before of the first
unfoldable pub ended_from : List ℕ → List ℕ → List (List ℕ)
ended_from held [] = []
ended_from held (b ∷ bs) = cond (eqb b line_feed) (held ∷ ended_from [] bs) (ended_from (held ++ b ∷ []) bs)

-- and the bytes after the last line feed
unfoldable pub rest_from : List ℕ → List ℕ → List ℕ
rest_from held [] = held
rest_from held (b ∷ bs) = cond (eqb b line_feed) (rest_from [] bs) (rest_from (held ++ b ∷ []) bs)

-- "which the last may lack": these are a line too, if there are any
abbrev pub last_line : List ℕ → List (List ℕ)
last_line [] = []
last_line (b ∷ bs) = (b ∷ bs) ∷ []

unfoldable pub lines_of : List ℕ → List (List ℕ)
lines_of input = ended_from [] input ++ last_line (rest_from [] input)

-- "Each out element is a line of 32 digits"
abbrev pub out_line : List ℕ → List ℕ
out_line ws = word_digits ws ++ line_feed ∷ []

-- the lines of n elements
unfoldable pub out_lines : ℕ → List ℕ → List ℕ
out_lines zero ws = []
out_lines (suc n) ws = out_line (take 4 ws) ++ out_lines n (drop 4 ws)

-- "A refusal prints one line, `ff` and its number in two hexadecimal digits"
abbrev pub refusal_line : ℕ → List ℕ
refusal_line n = 102 ∷ 102 ∷ byte_digits n ++ line_feed ∷ []

-- what lines leave: the reader's state, and the words of the accepted `03` lines, joined in order
pub record Came : Type 0 where
  pub reader : Reader
  pub words : List ℕ

-- before the first line
abbrev pub start : Came
start = record { reader = started; words = [] }

-- after a line; a refused one leaves all as it was
abbrev pub next : List ℕ → Came → Came
next line s =
    record {
      reader = (turned s.reader (frame_of line)).1;
      words = s.words ++ leaves (line_answer s.reader (frame_of line)) (words_by (frame_of line)) [];
    }

-- the lines of a table's fold, an element for each place
abbrev pub fold_lines : Plan → List ℕ → List ℕ
fold_lines plan table = out_lines (width plan) (fold_of plan table)

-- "Out lines are printed at `04`"; an accepted line of another kind prints nothing
abbrev pub at_close : Option Frame → List ℕ → List ℕ
at_close (Some Close) text = text
at_close (Some (Open opening)) text = []
at_close (Some (Coordinate index coordinate)) text = []
at_close (Some (Words words)) text = []
at_close None text = []

-- "A short `03` list followed by `04` must .. fold as the padded table does"
abbrev pub out_text : Option Frame → Came → List ℕ
out_text x s = at_close x (fold_lines s.reader.session.plan (padded_table s.reader.session.plan s.words))

-- what comes of a line's number: where it is refused its line, "and the program stops"; else what is said
unfoldable pub unless_refused : ℕ → List ℕ → List ℕ
unless_refused zero text = text
unless_refused (suc n) text = refusal_line (suc n)

-- what lines print, one after another; where they end, `ending` of the reader
unfoldable pub says_from : (Reader → List ℕ) → Came → List (List ℕ) → List ℕ
says_from ending s [] = ending s.reader
says_from ending s (line ∷ lines) =
    unless_refused (line_answer s.reader (frame_of line)) (out_text (frame_of line) s ++ says_from ending (next line s) lines)

-- "input that ends without `04` is 9"
abbrev pub end_line : Reader → List ℕ
end_line r = cond (is_done r.phase) [] (refusal_line 9)

-- what lines print, from the first to the last
abbrev pub prints : List (List ℕ) → List ℕ
prints lines = says_from end_line start lines

-- the whole output of a whole input
unfoldable pub printed : List ℕ → List ℕ
printed input = prints (lines_of input)

-- what can be told of it by an input that may go on: what the lines print that have ended
unfoldable pub told : List ℕ → List ℕ
told input = says_from (λ r. []) start (ended_from [] input)
