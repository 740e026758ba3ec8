-- Which lines may come in a phase (document 01, "Frames"). Assumes nothing.
use Rattle.std.specs.Prelude.{◌≡◌, Bool, true, false, Option, Some, None}
use Rattle.frame.specs.declared.Frame.{Frame}
use Rattle.frame.specs.declared.Frame.TheVariants.{Open, Coordinate, Words, Close}
use Rattle.runs.specs.declared.Phase.{Phase}
use Rattle.runs.specs.declared.Phase.TheVariants as phase

-- "Just one `01` comes first"; coordinates come "before the first `03` or `04`"
abbrev pub takes : Phase → Frame → Bool
takes phase.Start (Open opening) = true
takes phase.Start (Coordinate index coordinate) = false
takes phase.Start (Words words) = false
takes phase.Start Close = false
takes phase.Points (Open opening) = false
takes phase.Points (Coordinate index coordinate) = true
takes phase.Points (Words words) = true
takes phase.Points Close = true
takes phase.Words (Open opening) = false
takes phase.Words (Coordinate index coordinate) = false
takes phase.Words (Words words) = true
takes phase.Words Close = true
takes phase.Done f = false

-- what is no frame never may come
abbrev pub in_place : Phase → Option Frame → Bool
in_place ph (Some f) = takes ph f
in_place ph None = false

-- nothing may come any more
abbrev pub is_done : Phase → Bool
is_done phase.Start = false
is_done phase.Points = false
is_done phase.Words = false
is_done phase.Done = true

-- once it is done nothing may come any more, and before something may
pub record Over : Type 0 where
  pub nothing : (ph : Phase) → is_done ph ≡ true → (x : Option Frame) → in_place ph x ≡ false
  pub something : (ph : Phase) → is_done ph ≡ false → (x : Option Frame) × (in_place ph x ≡ true)
