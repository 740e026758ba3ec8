-- The program's state and one step of it, a line (document 01, "Frames" and "Program, line by line"; document 02, request (b), for the
-- coordinates, and (d), for the missing words). Assumes nothing.
use Rattle.std.specs.Prelude.{◌≡◌, ℕ, ◌+◌, ◌-◌, ◌*◌, ◌^◌, ◌≤◌, Bool, false, not, List, [], ◌∷◌, ◌++◌, eqb, leb, ltb, length, take, drop, replicate, Option, Some, None}
use Rattle.algebra.specs.Words.{unreduced}
use Rattle.multilinear.specs.declared.Side.TheVariants.{Prefix}
use Rattle.multilinear.specs.declared.Weight.TheVariants.{Plain}
use Rattle.field.specs.Field.{p}
use Rattle.field.specs.declared.Element.{Element}
use Rattle.table.specs.Table.{put_at}
use Rattle.table.specs.Refusals.{Test, ◌gives◌, verdict, leaves, most}
use Rattle.plan.specs.declared.Plan.{Plan}
use Rattle.plan.specs.Plan.{plan_of, width, capacity, gained_by}
use Rattle.plan.specs.Sound.{Sound}
use Rattle.padding.specs.Last.{kept_on, missing_words}
use Rattle.ledger.specs.declared.Session.{Session}
use Rattle.ledger.specs.Session.{session_of}
use Rattle.frame.specs.declared.Opening.{Opening}
use Rattle.frame.specs.declared.Frame.{Frame}
use Rattle.frame.specs.declared.Frame.TheVariants.{Open, Coordinate, Words, Close}
use Rattle.runs.specs.declared.Phase.{Phase}
use Rattle.runs.specs.declared.Phase.TheVariants as phase
use Rattle.runs.specs.declared.Reader.{Reader}
use Rattle.runs.specs.Phases.{in_place, is_done}

-- 3: n - k over 10
abbrev pub most_places : ℕ
most_places = 10

-- 13, at the first `03` or `04`: coordinates missing. From then on none are (`none_missing` of Runs.antt)
abbrev pub missing : Reader → Bool
missing r = ltb r.came r.session.plan.k

-- "Then at `01`: 3, 4 (k above n), 5, 3 (n - k over 10)"
abbrev pub open_tests : Opening → List Test
open_tests o =
    ltb most o.n gives 3
    ∷ ltb most o.k gives 3
    ∷ ltb o.n o.k gives 4
    ∷ unreduced p o.scale.c gives 5
    ∷ ltb most_places (o.n - o.k) gives 3
    ∷ []

-- At `02`: 13, 5. "The index starts at 00 and rises by one. A frame with any other index, or one at or above k, gets 13 at that frame,
-- before 5"
abbrev pub coordinate_tests : Reader → ℕ → Element → List Test
coordinate_tests r index coordinate =
    not (eqb index r.came) gives 13
    ∷ leb r.session.plan.k index gives 13
    ∷ unreduced p coordinate.c gives 5
    ∷ []

-- "At `03`: 5, 8", after 13
abbrev pub words_tests : Reader → List ℕ → List Test
words_tests r words =
    missing r gives 13
    ∷ unreduced p words gives 5
    ∷ ltb (capacity r.session.plan) (r.session.taken + length words) gives 8
    ∷ []

-- at `04`
abbrev pub close_tests : Reader → List Test
close_tests r = missing r gives 13 ∷ []

-- a frame's own tests
abbrev pub frame_tests : Reader → Frame → List Test
frame_tests r (Open o) = open_tests o
frame_tests r (Coordinate index coordinate) = coordinate_tests r index coordinate
frame_tests r (Words words) = words_tests r words
frame_tests r Close = close_tests r

abbrev pub own_tests : Reader → Option Frame → List Test
own_tests r (Some f) = frame_tests r f
own_tests r None = []

-- "Any line after `04` is 10; else 12 (not a frame, a byte outside its values, or out of place)"
abbrev pub shared_tests : Phase → Option Frame → List Test
shared_tests ph x = is_done ph gives 10 ∷ not (in_place ph x) gives 12 ∷ []

-- and then the frame's own
abbrev pub line_tests : Reader → Option Frame → List Test
line_tests r x = shared_tests r.phase x ++ own_tests r x

-- the answer to a line of this frame, or of none
unfoldable pub line_answer : Reader → Option Frame → ℕ
line_answer r x = verdict (line_tests r x)

-- the session of these arguments, of one column, every coordinate 0 as yet
abbrev pub session_by : Opening → Session
session_by o = session_of (plan_of o.n o.k 1 o.side o.weight o.scale []) 0 false

-- before the first line
unfoldable pub started : Reader
started =
    record {
      phase = phase.Start;
      session =
          session_by (record { side = Prefix; weight = Plain; n = 0; k = 0; scale = record { c = 0 ∷ 0 ∷ 0 ∷ 0 ∷ [] } });
      came = 0;
    }

-- at `01`: the session of its arguments, every coordinate 0 as yet
abbrev pub opened : Opening → Reader
opened o =
    record {
      phase = phase.Points;
      session = session_by o;
      came = 0;
    }

-- the same plan, with other coordinates
abbrev pub with_coordinates : Plan → List ℕ → Plan
with_coordinates plan ws =
    record {
      n = plan.n;
      k = plan.k;
      columns = plan.columns;
      side = plan.side;
      weight = plan.weight;
      scale = plan.scale;
      coordinates = ws;
    }

-- the same session, with another coordinate i
abbrev pub with_coordinate : Session → ℕ → Element → Session
with_coordinate s i e = session_of (with_coordinates s.plan (put_at s.plan.coordinates i e)) s.taken s.closed

-- at `02`: the coordinate in its place, and one more has come
abbrev pub noted : Reader → ℕ → Element → Reader
noted r index coordinate =
    record { phase = r.phase; session = with_coordinate r.session index coordinate; came = r.came + 1 }

-- at `03`: the words are taken
abbrev pub counted : Reader → List ℕ → Reader
counted r words =
    record {
      phase = phase.Words;
      session = session_of r.session.plan (r.session.taken + length words) r.session.closed;
      came = r.came;
    }

-- at `04`
abbrev pub done : Reader → Reader
done r = record { phase = phase.Done; session = r.session; came = r.came }

-- what an accepted line does to the state
abbrev pub taken : Reader → Option Frame → Reader
taken r (Some (Open o)) = opened o
taken r (Some (Coordinate index coordinate)) = noted r index coordinate
taken r (Some (Words words)) = counted r words
taken r (Some Close) = done r
taken r None = r

-- the words of out that the session has: an element for each place, in one column
abbrev pub used : Reader → ℕ
used r = 4 * width r.session.plan

-- out with the words that follow those taken: as the session's feed leaves it
abbrev pub gained : Reader → List ℕ → List ℕ → List ℕ
gained r words out = gained_by r.session.plan r.session.taken words (take (used r) out) ++ drop (used r) out

-- out after a line: zeroed at `01`, at `03` with its words, and at `04` with the missing ones
abbrev pub out_by : Reader → Option Frame → List ℕ → List ℕ → List ℕ
out_by r (Some (Open o)) out last = replicate (length out) 0
out_by r (Some (Coordinate index coordinate)) out last = out
out_by r (Some (Words words)) out last = gained r words out
out_by r (Some Close) out last = gained r (missing_words r.session.plan r.session.taken last) out
out_by r None out last = out

-- the last word of each place after a line: at `03` with the line's words, on the prefix side
abbrev pub last_by : Reader → Option Frame → List ℕ → List ℕ
last_by r (Some (Words words)) last = kept_on r.session.plan.side (width r.session.plan) r.session.taken words last
last_by r (Some (Open o)) last = last
last_by r (Some (Coordinate index coordinate)) last = last
last_by r (Some Close) last = last
last_by r None last = last

-- a line's number, and the state after it; a refused line changes nothing
unfoldable pub turned : Reader → Option Frame → ℕ × Reader
turned r x = (line_answer r x, leaves (line_answer r x) (taken r x) r)

-- out after it
unfoldable pub out_after : Reader → Option Frame → List ℕ → List ℕ → List ℕ
out_after r x out last = leaves (line_answer r x) (out_by r x out last) out

-- and the last words
unfoldable pub last_after : Reader → Option Frame → List ℕ → List ℕ
last_after r x last = leaves (line_answer r x) (last_by r x last) last

-- what every line finds: the state's numbers in their limits, its words and out's below p
pub record Ready (r : Reader) (out : List ℕ) : Type 0 where
  pub sound : Sound r.session.plan
  pub one_column : r.session.plan.columns ≡ 1
  pub few : r.session.plan.n - r.session.plan.k ≤ most_places
  pub within : r.session.taken ≤ capacity r.session.plan
  pub room : length out ≡ 4 * 2 ^ most_places
  pub out_below : unreduced p out ≡ false

-- and of the last words: one for each of 2^10 places, below p
pub record LastReady (last : List ℕ) : Type 0 where
  pub room : length last ≡ 2 ^ most_places
  pub below : unreduced p last ≡ false
