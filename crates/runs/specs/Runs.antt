-- What holds after every list of lines, for readers. Assumes nothing.
use Rattle.std.specs.Prelude.{◌≡◌, ℕ, zero, suc, ◌*◌, ◌^◌, Bool, true, false, List, [], ◌∷◌, ◌++◌, length, take, Option, Some, None}
use Rattle.table.specs.Refusals.{leaves}
use Rattle.plan.specs.Plan.{padded, fold_of}
use Rattle.padding.specs.Padding.{padded_table}
use Rattle.ledger.specs.declared.Session.{Session}
use Rattle.frame.specs.declared.Opening.{Opening}
use Rattle.frame.specs.declared.Frame.{Frame}
use Rattle.frame.specs.declared.Frame.TheVariants.{Open, Coordinate, Words, Close}
use Rattle.frame.specs.Frame.{frame_of}
use Rattle.runs.specs.declared.Phase.{Phase}
use Rattle.runs.specs.declared.Phase.TheVariants as phase
use Rattle.runs.specs.Phases.{is_done}
use Rattle.runs.specs.Reader.{started, used, most_places}
use Rattle.runs.specs.State.{State, number_of, step}

-- before the first line, out is anything of 2^10 elements, and the last words are any 2^10
abbrev pub start : List ℕ → List ℕ → State
start out last = record { reader = started; out = out; last = last }

pub record Rooms (out last : List ℕ) : Type 0 where
  pub elements : length out ≡ 4 * 2 ^ most_places
  pub words : length last ≡ 2 ^ most_places

-- after lines, one after another
abbrev pub after : List (List ℕ) → State → State
after [] s = s
after (l ∷ ls) s = after ls (step l s)

-- what a session has of its `01`: side, weight, n, k, scale
abbrev pub held_by : Session → Opening
held_by s =
    record { side = s.plan.side; weight = s.plan.weight; n = s.plan.n; k = s.plan.k; scale = s.plan.scale }

-- what lines bring, by their frames
abbrev pub opening_by : Option Frame → List Opening
opening_by (Some (Open o)) = o ∷ []
opening_by (Some (Coordinate index coordinate)) = []
opening_by (Some (Words words)) = []
opening_by (Some Close) = []
opening_by None = []

abbrev pub words_by : Option Frame → List ℕ
words_by (Some (Words words)) = words
words_by (Some (Open o)) = []
words_by (Some (Coordinate index coordinate)) = []
words_by (Some Close) = []
words_by None = []

abbrev pub coordinate_by : Option Frame → List ℕ
coordinate_by (Some (Coordinate index coordinate)) = coordinate.c
coordinate_by (Some (Open o)) = []
coordinate_by (Some (Words words)) = []
coordinate_by (Some Close) = []
coordinate_by None = []

abbrev pub index_by : Option Frame → List ℕ
index_by (Some (Coordinate index coordinate)) = index ∷ []
index_by (Some (Open o)) = []
index_by (Some (Words words)) = []
index_by (Some Close) = []
index_by None = []

-- what the accepted `01` lines give, in order
abbrev pub openings : List (List ℕ) → State → List Opening
openings [] s = []
openings (l ∷ ls) s = leaves (number_of s l) (opening_by (frame_of l)) [] ++ openings ls (step l s)

-- the words of the accepted `03` lines, joined in order
abbrev pub joined : List (List ℕ) → State → List ℕ
joined [] s = []
joined (l ∷ ls) s = leaves (number_of s l) (words_by (frame_of l)) [] ++ joined ls (step l s)

-- the coordinates of the accepted `02` lines, their words joined in order
abbrev pub given : List (List ℕ) → State → List ℕ
given [] s = []
given (l ∷ ls) s = leaves (number_of s l) (coordinate_by (frame_of l)) [] ++ given ls (step l s)

-- and their indices
abbrev pub indices : List (List ℕ) → State → List ℕ
indices [] s = []
indices (l ∷ ls) s = leaves (number_of s l) (index_by (frame_of l)) [] ++ indices ls (step l s)

-- 0, 1, .. n - 1
abbrev pub up_to : ℕ → List ℕ
up_to zero = []
up_to (suc n) = up_to n ++ n ∷ []

-- an `01` was accepted; a `03` or `04` was
abbrev pub is_opened : Phase → Bool
is_opened phase.Start = false
is_opened phase.Points = true
is_opened phase.Words = true
is_opened phase.Done = true

abbrev pub is_settled : Phase → Bool
is_settled phase.Start = false
is_settled phase.Points = false
is_settled phase.Words = true
is_settled phase.Done = true

pub record Runs : Type 0 where
  -- "Just one `01` comes first": before it none was accepted
  pub unopened : (ls : List (List ℕ)) (out last : List ℕ) → is_opened (after ls (start out last)).reader.phase ≡ false
      → openings ls (start out last) ≡ []
  -- from it on one was, and the session has the fields that stand in that line
  pub opened_by : (ls : List (List ℕ)) (out last : List ℕ) → is_opened (after ls (start out last)).reader.phase ≡ true
      → openings ls (start out last) ≡ held_by (after ls (start out last)).reader.session ∷ []
  -- and one column: frames have no more
  pub one_column : (ls : List (List ℕ)) (out last : List ℕ) → (after ls (start out last)).reader.session.plan.columns ≡ 1
  -- before `04` out is the ledger's of the joined words: at each place the sum over the rows of scale·weight·word, a missing word being 0
  pub folds : (ls : List (List ℕ)) (out last : List ℕ) → Rooms out last
      → let s = after ls (start out last) in is_opened s.reader.phase ≡ true → is_done s.reader.phase ≡ false
      → take (used s.reader) s.out ≡ fold_of s.reader.session.plan (joined ls (start out last))
  -- from `04` on it is the fold of the padded table
  pub pads : (ls : List (List ℕ)) (out last : List ℕ) → Rooms out last
      → let s = after ls (start out last) in is_done s.reader.phase ≡ true
      → take (used s.reader) s.out
      ≡ fold_of s.reader.session.plan (padded_table s.reader.session.plan (joined ls (start out last)))
  -- and the words taken are as many as those joined
  pub takes : (ls : List (List ℕ)) (out last : List ℕ)
      → (after ls (start out last)).reader.session.taken ≡ length (joined ls (start out last))
  -- "the index starts at 00 and rises by one": so do the accepted `02` lines
  pub rising : (ls : List (List ℕ)) (out last : List ℕ)
      → indices ls (start out last) ≡ up_to (length (indices ls (start out last)))
  -- the coordinates are those of the accepted `02` lines, in their order, and 0 where none has come yet
  pub in_order : (ls : List (List ℕ)) (out last : List ℕ)
      → (after ls (start out last)).reader.session.plan.coordinates ≡ padded (given ls (start out last))
  -- from the first `03` or `04` on there are k of them
  pub none_missing : (ls : List (List ℕ)) (out last : List ℕ) → is_settled (after ls (start out last)).reader.phase ≡ true
      → length (given ls (start out last)) ≡ 4 * (after ls (start out last)).reader.session.plan.k
