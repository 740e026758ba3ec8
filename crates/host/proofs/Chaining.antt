-- The loop of `chain` after i products: how it starts, steps and ends. Assumes nothing.
use mathlib.Core.Path.{◌≡◌}
use Prim.Native.Nat.{ℕ, ◌+◌, ◌≤◌, ◌<◌}
use native.Mathlib.Numerals.{add-one}
use native.Mathlib.Omega.{arith}
use lib.ListN.{length}
use Rattle.multilinear.specs.Beside.{power}
use Rattle.field.specs.Field.{field, from_words, Reduced, Holds}
use Rattle.field.specs.declared.Element.{Element}
use Rattle.field.proofs.Laws.{field_ring, holds_again, read_as}

pub record Chaining (x y : Element) (times i : ℕ) (product : Element) : Type 0 where
  pub within : i ≤ times
  pub value : Holds product (field.mul (from_words x) (power field (from_words y) i))

pub start : (x y : Element) (times : ℕ) → length x.c ≡ 4 → Reduced x → Chaining x y times 0 x
unfolding power
start x y times l h = record { within = omega arith; value = rw (field_ring.mul_one (from_words x)) (holds_again x l h) }

pub turn : (x y : Element) (times i : ℕ) (product : Element) {next : Element} → Chaining x y times i product → i < times
    → Holds next (field.mul (from_words product) (from_words y)) → Chaining x y times (i + 1) next
unfolding power
turn x y times i product d h e =
    record {
      within = omega arith;
      value = rw (add-one, ← field_ring.mul_assoc (from_words x) (power field (from_words y) i) (from_words y), ← read_as _ d.value) e;
    }
