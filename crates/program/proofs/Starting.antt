-- A program before its first block. Assumes nothing.
use mathlib.Core.Path.{◌≡◌, refl}
use Prim.Native.Nat.{ℕ}
use native.Mathlib.Omega.{arith}
use mathlib.Core.List.{List, []}
use mathlib.Core.Bool.{false}
use Rattle.runs.specs.Reader.{started}
use Rattle.runs.specs.State.{State}
use Rattle.program.specs.Blocks.{Fed, start_state, begun}
use Rattle.program.specs.Inside.{Goes}

module _ {run : State} {line text : List ℕ} (r : run ≡ start_state) (l : line ≡ []) (t : text ≡ []) where
  abbrev first : Fed
  first = record { feeding = record { state = run; stopped = false; held = line }; text = text }

  pub goes_first : Goes first
  unfolding started
  goes_first = rw (r, l, t) (record { few = omega arith; room = omega arith })

  pub seen_first : first ≡ record { feeding = begun; text = [] }
  seen_first = rw (r, l, t) refl
