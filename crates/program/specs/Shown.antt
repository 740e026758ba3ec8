-- What a program shows. Assumes nothing.
use Rattle.std.specs.Prelude.{ℕ}
use Rattle.buffer.specs.Held.{Held}
use Rattle.frames.specs.declared.Run.{Run}
use Rattle.program.specs.Blocks.{Fed}

-- what it holds and has to print; and beside it what a copy is made of
pub record Shown : Type 0 where
  pub fed : Fed
  pub run : Run
  pub line : Held ℕ
  pub text : Held ℕ
