-- Lists of calls, and the ledger (document 01, "Fold session", second paragraph; its reads, document 02, (a); its columns, (e)). Assumes
-- nothing.
use Rattle.std.specs.Prelude.{ℕ, ◌+◌, Bool, true, false, List, [], ◌∷◌, ◌++◌, ltb, leb, length}
use Rattle.algebra.specs.Words.{unreduced}
use Rattle.field.specs.Field.{p}
use Rattle.table.specs.Table.{element_at}
use Rattle.table.specs.Refusals.{Outcome, alone, ◌gives◌, verdict, leaves, evaluated}
use Rattle.plan.specs.declared.Plan.{Plan}
use Rattle.plan.specs.Plan.{width, capacity, fold_of}
use Rattle.ledger.specs.Session.{State, state, session_of, feed_step, close_step, read_step}

-- a call's kind, and its piece or place
pub data Call : Type 0 where
  feed : List ℕ → Call
  close : Call
  read : ℕ → Call

-- a list of calls, one after another: all answers, and what is left at the end
abbrev pub run {ℓ} : {C A : Type 0} {S : Type ℓ} → (C → S → A × S) → List C → S → List A × S
run step [] s = ([], s)
run step (c ∷ cs) s = ((step c s).0 ∷ (run step cs (step c s).1).0, (run step cs (step c s).1).1)

-- the session: what the contracts of feed, close and read say; the answer of a feed or a close is its number alone
abbrev pub session_step : Call → State → Outcome × State
session_step (feed piece) st = (alone (feed_step st piece).0, (feed_step st piece).1)
session_step close st = (alone (close_step st).0, (close_step st).1)
session_step (read place) st = read_step st place

-- "It keeps the accepted pieces' words, joined in order, none at first, and whether it is closed, at first not"
pub record Ledger : Type 0 where
  pub words : List ℕ
  pub closed : Bool

abbrev pub empty : Ledger
empty = record { words = []; closed = false }

-- "Feed: 10 where it is closed; else 5 where a word of the piece is not below p; else 8 where the joined words and the piece together
-- are more than the table has"
abbrev pub ledger_feed : Plan → List ℕ → Ledger → ℕ
ledger_feed plan piece l =
    verdict
    (l.closed gives 10
    ∷ unreduced p piece gives 5
    ∷ ltb (capacity plan) (length l.words + length piece) gives 8
    ∷ [])

-- "Close: 10 where it is closed; else 9 where the joined words are fewer than the table has"
abbrev pub ledger_close : Plan → Ledger → ℕ
ledger_close plan l = verdict (l.closed gives 10 ∷ ltb (length l.words) (capacity plan) gives 9 ∷ [])

-- its out: at each place, and in each column, "the sum over the 2^k rows y of scale·weight[y]·(word of place i of row y), a word not
-- joined being 0"
abbrev pub ledger_out : Plan → Ledger → List ℕ
ledger_out plan l = fold_of plan l.words

-- "told the place, answers 14 or gives that place of its out"
abbrev pub ledger_read : Plan → ℕ → Ledger → Outcome
ledger_read plan place l = evaluated (verdict (leb (width plan) place gives 14 ∷ [])) (element_at (ledger_out plan l) place)

-- its answer to a call
abbrev pub ledger_answer : Plan → Call → Ledger → Outcome
ledger_answer plan (feed piece) l = alone (ledger_feed plan piece l)
ledger_answer plan close l = alone (ledger_close plan l)
ledger_answer plan (read place) l = ledger_read plan place l

-- "accepted, and the piece is joined on"; "accepted, and it is closed"; a read enters nothing
abbrev pub entered : Call → Ledger → Ledger
entered (feed piece) l = record { words = l.words ++ piece; closed = l.closed }
entered close l = record { words = l.words; closed = true }
entered (read place) l = l

-- what a ledger that is told a call's answer then holds; "a refused call changes nothing in it"
abbrev pub told : Call → Outcome → Ledger → Ledger
told c answer l = leaves answer.number (entered c l) l

abbrev pub ledger_step : Plan → Call → Ledger → Outcome × Ledger
ledger_step plan c l = (ledger_answer plan c l, told c (ledger_answer plan c l) l)

-- "Its session has open's arguments, unused coordinates 0, the count of joined words as words taken, and its own closed", beside its out
abbrev pub ledger_state : Plan → Ledger → State
ledger_state plan l = state (session_of plan (length l.words) l.closed) (ledger_out plan l)

-- what a ledger holds that is told each call and its answer
abbrev pub told_all : List Call → List Outcome → Ledger → Ledger
told_all [] vs l = l
told_all (c ∷ cs) [] l = l
told_all (c ∷ cs) (v ∷ vs) l = told_all cs vs (told c v l)

-- its words: the pieces that were accepted, by the answers, joined in order
abbrev pub joined : List Call → List Outcome → List ℕ
joined cs vs = (told_all cs vs empty).words
