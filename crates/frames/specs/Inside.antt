-- The state with the words that are gathered, and what holds of its parts. Assumes nothing.
use Rattle.std.specs.Prelude.{◌≡◌, ℕ, ◌-◌, ◌≤◌, Bool, true, false, List, [], length, Some}
use Rattle.algebra.specs.Words.{unreduced}
use Rattle.field.specs.Field.{p}
use Rattle.frame.specs.declared.Frame.TheVariants.{Words}
use Rattle.runs.specs.declared.Phase.{Phase}
use Rattle.runs.specs.declared.Phase.TheVariants as phase
use Rattle.runs.specs.declared.Reader.{Reader}
use Rattle.runs.specs.Reader.{gained, last_by, Ready, LastReady}
use Rattle.runs.specs.Inner.{marked_as}
use Rattle.runs.specs.State.{State}
use Rattle.frames.specs.declared.Run.TheInside.{Inside}
use Rattle.frames.specs.Shown.{Shown}

-- the most words that are gathered
abbrev pub most_gathered : ℕ
most_gathered = 1024

-- the reader before the last words that it took
abbrev pub before : Reader → List ℕ → Reader
before r words = marked_as r r.phase (r.session.taken - length words)

-- the last words that the reader took are gathered: the state is as if they had been added too
abbrev pub with_gathered : Reader → List ℕ → List ℕ → List ℕ → State
with_gathered r gathered out last =
    record {
      reader = r;
      out = gained (before r gathered) gathered out;
      last = last_by (before r gathered) (Some (Words gathered)) last;
    }

abbrev pub seen : Inside → State
seen i = with_gathered i.reader i.gathered.items i.out i.last

-- beside the parts that it is told by
abbrev pub shown : Inside → Shown
shown i = record { state = seen i; out = i.out; last = i.last; gathered = i.gathered }

-- which give them back
abbrev pub inside : Shown → Inside
inside s = record { reader = s.state.reader; out = s.out; last = s.last; gathered = s.gathered }

-- words may be gathered
abbrev pub is_gathering : Phase → Bool
is_gathering phase.Start = false
is_gathering phase.Points = false
is_gathering phase.Words = true
is_gathering phase.Done = false

-- the sums and the last words of all words but those that are gathered
pub record Gathers (r : Reader) (gathered out last : List ℕ) : Type 0 where
  pub ready : Ready r out
  pub last_ready : LastReady last
  pub below : unreduced p gathered ≡ false
  pub counted : length gathered ≤ r.session.taken
  pub none : is_gathering r.phase ≡ false → gathered ≡ []

abbrev pub Gathering : Inside → Type 0
Gathering i = Gathers i.reader i.gathered.items i.out i.last
