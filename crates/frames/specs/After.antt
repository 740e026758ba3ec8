-- The state after a line's frame. Assumes nothing.
use Rattle.std.specs.Prelude.{Option, Some}
use Rattle.frame.specs.declared.Frame.{Frame}
use Rattle.runs.specs.Reader.{taken, out_by, last_by, turned, out_after, last_after}
use Rattle.runs.specs.State.{State}

-- as `step` has it for a line
abbrev pub after_frame : Option Frame → State → State
after_frame x s =
    record {
      reader = (turned s.reader x).1;
      out = out_after s.reader x s.out s.last;
      last = last_after s.reader x s.last;
    }

-- an accepted one
abbrev pub after_accepted : Frame → State → State
after_accepted f s =
    record {
      reader = taken s.reader (Some f);
      out = out_by s.reader (Some f) s.out s.last;
      last = last_by s.reader (Some f) s.last;
    }
