-- What a program holds, and what holds of it. Assumes nothing.
use Rattle.std.specs.Prelude.{ℕ, ◌+◌, ◌≤◌, cond, length}
use Rattle.frame.specs.Frame.{most_line}
use Rattle.runs.specs.Phases.{is_done}
use Rattle.program.specs.declared.Program.TheInside.{Inside}
use Rattle.program.specs.Blocks.{most_text, Feeding, Fed}
use Rattle.program.specs.Shown.{Shown}

abbrev pub seen : Inside → Fed
seen p =
    record {
      feeding = record { state = p.run.state; stopped = p.stopped; held = p.line.items };
      text = p.text.items;
    }

-- beside the parts that it is told by
abbrev pub shown : Inside → Shown
shown p = record { fed = seen p; run = p.run; line = p.line; text = p.text }

-- which give them back
abbrev pub inside : Shown → Inside
inside s = record { run = s.run; line = s.line; stopped = s.fed.feeding.stopped; text = s.text }

-- the most that the lines may still print: before `04` those of 2^10 elements, and a refusal's
abbrev pub left : Feeding → ℕ
left f = cond f.stopped 0 (cond (is_done f.state.reader.phase) 5 most_text)

-- text has room for what the lines may still print
pub record Goes (s : Fed) : Type 0 where
  pub few : length s.feeding.held ≤ most_line
  pub room : length s.text + left s.feeding ≤ most_text

abbrev pub Going : Inside → Type 0
Going p = Goes (seen p)
