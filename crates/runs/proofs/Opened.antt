-- The session has the fields of the one `01` line that was accepted. Assumes nothing.
use mathlib.Core.Path.{◌≡◌, refl, sym, ap}
use mathlib.Core.Bool.{true, false}
use Prim.Native.Nat.{ℕ}
use mathlib.Core.List.{List, [], ◌∷◌, append-nil}
use Rattle.runs.specs.Reader.{started}
use Rattle.runs.specs.State.{State}
use Rattle.frame.specs.declared.Opening.{Opening}
use Rattle.runs.specs.Runs.{start, held_by, opening_by, is_opened}
use Rattle.runs.proofs.Steps.{never, Keeps}

pub record Opened (s : State) (os : List Opening) : Type 0 where
  pub none : is_opened s.reader.phase ≡ false → os ≡ []
  pub held : is_opened s.reader.phase ≡ true → os ≡ held_by s.reader.session ∷ []

pub opened_start : (out last : List ℕ) → Opened (start out last) []
unfolding started
opened_start out last = record { none = λ q. refl; held = λ q. never (sym q) }

pub opened_keeps : Keeps opening_by Opened
opened_keeps =
    record {
      opens = λ s o os i e h.
          let z : os ≡ [] = i.none (ap is_opened e) in
          rw z (record { none = λ q. never q; held = λ q. refl });
      notes = λ s j x os i e h l. rw append-nil (record { none = i.none; held = i.held });
      takes = λ s ws os i h w. rw append-nil (record { none = λ q. never q; held = λ q. i.held h.opened });
      closes = λ s os i h. rw append-nil (record { none = λ q. never q; held = λ q. i.held h.opened });
    }
