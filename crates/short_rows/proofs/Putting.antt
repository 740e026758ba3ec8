-- Coordinates put off one after another, while there is room for the sums. Assumes nothing.
use mathlib.Core.Path.{◌≡◌, ap, ◌∙◌}
use Prim.Native.Nat.{ℕ, ◌+◌, ◌*◌, ◌^◌, ◌≤◌, ◌<◌}
use native.Mathlib.Nat.{two-pow-succ, add-mul}
use native.Mathlib.Numerals.{add-one}
use native.Mathlib.Omega.{arith}
use Rattle.short_rows.specs.ShortRows.{most_sums, PutOff}

-- so many are put off, and so many sums are that
pub record Putting (inner count sums late : ℕ) : Type 0 where
  pub few : late ≤ count
  pub is : sums ≡ 2 ^ late * inner
  pub sums_few : sums ≤ most_sums

pub none_put_off : (inner count : ℕ) → PutOff inner count 0
none_put_off inner count = record { few = omega arith; fits = λ h. absurd (omega (arith, h)) }

pub none_yet : (inner count : ℕ) → inner ≤ most_sums → Putting inner count inner 0
none_yet inner count h = record { few = omega arith; is = omega arith; sums_few = omega arith }

module _ {inner count sums late : ℕ} (p : Putting inner count sums late) where
  pub one_more : late < count → 2 * sums ≤ most_sums → Putting inner count (sums * 2) (late + 1)
  one_more h l =
      let q : 2 ^ (late + 1) * inner ≡ 2 ^ late * inner + 2 ^ late * inner =
      ap (λ n. 2 ^ n * inner) (add-one late) ∙ ap (λ n. n * inner) (two-pow-succ late) ∙ add-mul (2 ^ late) (2 ^ late) inner in
      record { few = omega arith; is = omega (arith, q, p.is); sums_few = omega arith }

  pub put_off : PutOff inner count late
  put_off = record { few = p.few; fits = λ h. omega (arith, p.is, p.sums_few) }
