-- A short list of words beside the padded one, for readers (document 02, request (d)). Assumes nothing.
use Rattle.std.specs.Prelude.{◌≡◌, ℕ, List, [], ◌∷◌, ◌++◌, length, drop, Some}
use Rattle.padding.specs.Padding.{padded_table}
use Rattle.frame.specs.declared.Frame.TheVariants.{Words, Close}
use Rattle.frame.specs.Frame.{frame_of}
use Rattle.frame.specs.Written.{words_line, close_line}
use Rattle.runs.specs.Runs.{words_by}
use Rattle.program.specs.Printed.{Came, start, next, prints}

-- what lines leave, one after another
abbrev pub after_lines : List (List ℕ) → Came → Came
after_lines [] s = s
after_lines (line ∷ lines) s = after_lines lines (next line s)

-- each of the lines is an `03`
abbrev pub AllWords : List (List ℕ) → Type 0
AllWords [] = Unit {0}
AllWords (line ∷ lines) = (frame_of line ≡ Some (Words (words_by (frame_of line)))) × AllWords lines

-- and their words, joined
abbrev pub words_in : List (List ℕ) → List ℕ
words_in [] = []
words_in (line ∷ lines) = words_by (frame_of line) ++ words_in lines

-- the words that are missing: those of the padded table behind the words that came
abbrev pub words_missing : Came → List ℕ
words_missing s = drop (length s.words) (padded_table s.reader.session.plan s.words)

-- words as `03` lines of one word each
abbrev pub word_lines : List ℕ → List (List ℕ)
word_lines [] = []
word_lines (w ∷ ws) = words_line (w ∷ []) ∷ word_lines ws

pub record Padded : Type 0 where
  -- for every list of lines: followed by a `04`, and whatever comes after it, they print what they print with `03` lines of the missing
  -- words before it, however these are cut
  pub alike : (lines more rest : List (List ℕ)) (close : List ℕ) → AllWords more → frame_of close ≡ Some Close
      → (let s = after_lines lines start in s.words ++ words_in more ≡ padded_table s.reader.session.plan s.words)
      → prints (lines ++ close ∷ rest) ≡ prints (lines ++ more ++ close ∷ rest)
  -- one by one, for example
  pub one_by_one : (lines rest : List (List ℕ))
      → prints (lines ++ close_line ∷ rest) ≡ prints (lines ++ word_lines (words_missing (after_lines lines start)) ++ close_line ∷ rest)
