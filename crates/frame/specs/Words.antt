-- The words of an `03` and their room. Assumes nothing.
use Rattle.std.specs.Prelude.{◌≡◌, ℕ, ◌-◌, ◌≤◌, List, ◌++◌, length, take, drop, replicate}
use Rattle.std.proofs.Common.{refl, length-take-le, take-append-drop}
use Rattle.frame.specs.declared.Words.TheInside.{Inside}

-- they stand in front
abbrev pub in_front : Inside → List ℕ
in_front w = take w.count w.room

-- and behind them the room is 0
pub record ZerosBehind (w : Inside) : Type 0 where
  pub few : w.count ≤ length w.room
  pub zeros : drop w.count w.room ≡ replicate (16 - w.count) 0

-- so they give it back
abbrev pub with_zeros : List ℕ → Inside
with_zeros ws = record { room = ws ++ replicate (16 - length ws) 0; count = length ws }

pub gives_back : (w : Inside) → ZerosBehind w → with_zeros (in_front w) ≡ w
gives_back w h = rw (length-take-le w.count w.room h.few, ← h.zeros, take-append-drop w.count w.room) refl
