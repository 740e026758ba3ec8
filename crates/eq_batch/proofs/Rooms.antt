-- The room of a batch's sum: in words that were tested, in words of zeros, after a gain, and past what was gained. Assumes nothing.
use mathlib.Core.Path.{◌≡◌, ap}
use mathlib.Core.Bool.{false}
use Prim.Native.Nat.{ℕ, ◌+◌, ◌*◌, ◌≤◌}
use native.Mathlib.Nat.{zero-add}
use native.Mathlib.Omega.{arith}
use mathlib.Core.List.{List}
use lib.ListN.{length, replicate, length-replicate}
use Rattle.algebra.specs.Words.{unreduced}
use Rattle.field.specs.Field.{p, Ext}
use Rattle.field.proofs.Laws.{reduced}
use Rattle.table.specs.Gained.{Gained}
use Rattle.table.proofs.Parts.{get_zeros}
use Rattle.table.proofs.Tests.{reduced_at}
use Rattle.eq_batch.specs.Inner.{Elements}

-- reduced words have room
pub room_words : (n : ℕ) (ws : List ℕ) → length ws ≡ 4 * n → unreduced p ws ≡ false → Elements 0 n ws
room_words n ws l u = record { fits = omega arith; reduced = λ y h. reduced_at ws u (0 + y) }

-- and so have words of zeros
pub room_zeros : (m n : ℕ) → n ≡ 4 * m → {ws : List ℕ} → ws ≡ replicate n 0 → Elements 0 m ws
room_zeros m n l e =
    record {
      fits = omega (arith, ap length e, length-replicate {A = ℕ} n 0);
      reduced = λ y h. rw (e, get_zeros n (0 + y)) (reduced _);
    }

-- the room is there again, for what was gained and for what was not
pub room_gained : {n : ℕ} {g : ℕ → Ext} {ws w : List ℕ} → Elements 0 n ws → Gained 0 n g ws w → Elements 0 n w
room_gained r d = record { fits = omega (arith, r.fits, d.len); reduced = λ y h. rw (d.gained y h) (reduced _) }

pub room_beyond : (m n k : ℕ) {g : ℕ → Ext} {ws w : List ℕ} → Elements 0 k ws → Gained 0 m g ws w → m + n ≤ k → Elements m n w
room_beyond m n k {g} {ws} r d l =
    record {
      fits = omega (arith, r.fits, d.len);
      reduced = λ y h. rw (d.after (m + y) (omega arith)) (rw zero-add at (r.reduced (m + y) (omega arith)));
    }
