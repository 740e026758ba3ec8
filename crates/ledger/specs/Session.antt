-- The fold session (document 01, "Fold session"; "Refused calls": Open, Feed, Close; document 02, (a): Read; (e): columns): what each call
-- answers and leaves. Assumes nothing.
use Rattle.std.specs.Prelude.{ℕ, suc, ◌+◌, ◌*◌, Bool, true, false, not, ◌&&◌, ◌||◌, List, [], ◌∷◌, ◌++◌, eqb, ltb, leb, length, drop, replicate}
use Rattle.algebra.specs.Words.{unreduced}
use Rattle.multilinear.specs.declared.Side.{Side}
use Rattle.multilinear.specs.declared.Side.TheVariants.{Prefix}
use Rattle.multilinear.specs.declared.Weight.{Weight}
use Rattle.multilinear.specs.declared.Weight.TheVariants.{Plain}
use Rattle.field.specs.Field.{p}
use Rattle.field.specs.declared.Element.{Element}
use Rattle.table.specs.Table.{element_at, entries}
use Rattle.table.specs.Refusals.{Outcome, Test, ◌gives◌, verdict, leaves, evaluated, most, splits, too_many, miscounts}
use Rattle.plan.specs.declared.Plan.{Plan}
use Rattle.plan.specs.Plan.{plan_of, most_on, width, capacity, gained_by}
use Rattle.ledger.specs.declared.Session.{Session}

-- a session and the out beside it
pub record State : Type 0 where
  pub session : Session
  pub out : List ℕ

abbrev pub state : Session → List ℕ → State
state s out = record { session = s; out = out }

-- open's arguments
pub record Args : Type 0 where
  pub n : ℕ
  pub columns : ℕ
  pub side : Side
  pub weight : Weight
  pub scale : Element
  pub point : List ℕ

abbrev pub args : ℕ → ℕ → Side → Weight → Element → List ℕ → Args
args n columns side weight scale point =
    record { n = n; columns = columns; side = side; weight = weight; scale = scale; point = point }

-- their plan: as many coordinates as the point has, unused ones 0
abbrev pub planned : Args → Plan
planned a = plan_of a.n (entries a.point) a.columns a.side a.weight a.scale a.point

-- the record: a plan, words taken, closed
abbrev pub session_of : Plan → ℕ → Bool → Session
session_of plan taken closed = record { plan = plan; taken = taken; closed = closed }

-- Open: 1, 3, 15 ("for c outside 1 to 16 or c above 1 on the suffix side"), 4 (also k above n, out), 5
abbrev pub open_tests : Args → List ℕ → List Test
open_tests a out =
    splits a.point gives 1
    ∷ splits out gives 1
    ∷ ltb most a.n gives 3
    ∷ too_many a.point gives 3
    ∷ ltb a.columns 1 gives 15
    ∷ ltb (most_on a.side) a.columns gives 15
    ∷ ltb a.n (entries a.point) gives 4
    ∷ miscounts out (width (planned a)) gives 4
    ∷ unreduced p a.point gives 5
    ∷ unreduced p a.scale.c gives 5
    ∷ []

unfoldable pub open_answer : Args → List ℕ → ℕ
open_answer a out = verdict (open_tests a out)

-- beside a refused open: a record that no session has, n being over 20, so that every call on it is 11 (`unopened` of Demand3.antt)
unfoldable pub no_session : Session
no_session = session_of (plan_of (suc most) 0 1 Prefix Plain (record { c = 0 ∷ 0 ∷ 0 ∷ 0 ∷ [] }) []) 0 false

-- "Open zeroes out"
abbrev pub opened : Args → List ℕ → State
opened a out = state (session_of (planned a) 0 false) (replicate (length out) 0)

unfoldable pub open_leaves : Args → List ℕ → State
open_leaves a out = leaves (open_answer a out) (opened a out) (state no_session out)

-- what open returns and leaves
abbrev pub open_step : Args → List ℕ → ℕ × State
open_step a out = (open_answer a out, open_leaves a out)

-- a word that is not 0
unfoldable pub nonzero : List ℕ → Bool
nonzero [] = false
nonzero (w ∷ ws) = not (eqb w 0) || nonzero ws

-- 11: n over 20, k over n, no such c, taken over c·2^n, a part unreduced, unused coordinate not 0, closed short of c·2^n
abbrev pub record_tests : Session → List Test
record_tests s =
    ltb most s.plan.n gives 11
    ∷ ltb s.plan.n s.plan.k gives 11
    ∷ ltb s.plan.columns 1 gives 11
    ∷ ltb (most_on s.plan.side) s.plan.columns gives 11
    ∷ ltb (capacity s.plan) s.taken gives 11
    ∷ unreduced p s.plan.scale.c gives 11
    ∷ unreduced p s.plan.coordinates gives 11
    ∷ nonzero (drop (4 * s.plan.k) s.plan.coordinates) gives 11
    ∷ (s.closed && ltb s.taken (capacity s.plan)) gives 11
    ∷ []

-- 4 (out), 5 (any word of out)
abbrev pub out_tests : State → List Test
out_tests st =
    splits st.out gives 4
    ∷ miscounts st.out (width st.session.plan) gives 4
    ∷ unreduced p st.out gives 5
    ∷ []

-- Feed: 11, 10, 4, 5 (piece or out), 8 (piece passes c·2^n)
abbrev pub feed_tests : State → List ℕ → List Test
feed_tests st piece =
    record_tests st.session
    ++ st.session.closed gives 10
    ∷ out_tests st
    ++ unreduced p piece gives 5
    ∷ ltb (capacity st.session.plan) (st.session.taken + length piece) gives 8
    ∷ []

-- Close: 11, 10, 4, 5, 9 (words missing)
abbrev pub close_tests : State → List Test
close_tests st =
    record_tests st.session
    ++ st.session.closed gives 10
    ∷ out_tests st
    ++ ltb st.session.taken (capacity st.session.plan) gives 9
    ∷ []

unfoldable pub feed_answer : State → List ℕ → ℕ
feed_answer st piece = verdict (feed_tests st piece)

-- "Feed adds scale·weight·word to each word's place and counts the words taken"
abbrev pub fed : Session → List ℕ → List ℕ → State
fed s piece out = state (session_of s.plan (s.taken + length piece) s.closed) (gained_by s.plan s.taken piece out)

unfoldable pub feed_leaves : State → List ℕ → State
feed_leaves st piece = leaves (feed_answer st piece) (fed st.session piece st.out) st

-- what feed returns and leaves
abbrev pub feed_step : State → List ℕ → ℕ × State
feed_step st piece = (feed_answer st piece, feed_leaves st piece)

unfoldable pub close_answer : State → ℕ
close_answer st = verdict (close_tests st)

-- "Close marks it closed"
unfoldable pub close_leaves : State → State
close_leaves st = leaves (close_answer st) (state (session_of st.session.plan st.session.taken true) st.out) st

-- what close returns and leaves
abbrev pub close_step : State → ℕ × State
close_step st = (close_answer st, close_leaves st)

-- Read: 11, 4, 5 (any word of out), 14 (a place at or above c·2^(n-k), "c places" for each); after close as before it, so no 10
abbrev pub read_tests : State → ℕ → List Test
read_tests st place = record_tests st.session ++ out_tests st ++ leb (width st.session.plan) place gives 14 ∷ []

-- the sum of one place, as out has it
unfoldable pub read_answer : State → ℕ → Outcome
read_answer st place = evaluated (verdict (read_tests st place)) (element_at st.out place)

-- what read returns and leaves: reads "alter neither session nor out"
abbrev pub read_step : State → ℕ → Outcome × State
read_step st place = (read_answer st place, st)
