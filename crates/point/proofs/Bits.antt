-- What a coordinate is taken as for a bit of a row. Assumes nothing.
use mathlib.Core.Path.{◌≡◌, refl}
use Prim.Native.Nat.{ℕ, zero, suc}
use lib.ListN.{length}
use Rattle.algebra.specs.Ring.{minus}
use Rattle.field.specs.Field.{field, from_words, Reduced, Holds}
use Rattle.field.specs.declared.Element.{Element}
use Rattle.field.proofs.Laws.{read_as, holds_again}
use Rattle.multilinear.specs.Equality.{for_bit}
use Rattle.multilinear.specs.Inner.{tail_step}

pub for_zero : (b : ℕ) (c o : Element) {r : Element} → b ≡ 0 → Holds o field.one → Holds r (minus field (from_words o) (from_words c))
    → Holds r (for_bit field b (from_words c))
for_zero b c o h e₁ e₂ = rw h (rw (read_as _ e₁) at e₂)

pub for_one : (b : ℕ) (c : Element) → (b ≡ 0 → ⊥) → length c.c ≡ 4 → Reduced c → Holds c (for_bit field b (from_words c))
for_one zero c h l q = absurd (h refl)
for_one (suc b) c h l q = holds_again c l q

pub tail_zero : (b : ℕ) (c s o rest part : Element) {r : Element} → b ≡ 0 → Holds o field.one
    → Holds rest (minus field (from_words o) (from_words s)) → Holds part (field.mul (from_words c) (from_words rest))
    → Holds r (field.add (from_words s) (from_words part)) → Holds r (tail_step field b (from_words c) (from_words s))
tail_zero b c s o rest part h e₁ e₂ e₃ e₄ = rw h (rw (read_as _ e₃, read_as _ e₂, read_as _ e₁) at e₄)
