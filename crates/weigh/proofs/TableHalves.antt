-- The halves of a table. Assumes nothing.
use mathlib.Core.Path.{◌≡◌, ap, ap₂, ◌∙◌}
use Prim.Native.Nat.{ℕ, suc, ◌+◌, ◌-◌, ◌*◌, ◌^◌, ◌≤◌, ◌<◌}
use native.Mathlib.Nat.{mul_comm, add-mul}
use native.Mathlib.Omega.{arith}
use mathlib.Core.List.{List}
use lib.ListN.{length, take}
use lib.Seq.{length-take-le}
use Rattle.algebra.proofs.Words.{unreduced_take}
use Rattle.field.specs.Field.{p, p_pos, Ext}
use Rattle.table.proofs.Parts.{after, after_length, after_below}
use Rattle.weigh.specs.Entries.{WholeTable, Parted}
use Rattle.weigh.proofs.Halving.{twice_half}

module _ {n m half : ℕ} (e : n ≡ suc m) (h : half ≡ 2 ^ m) where
  rows : 2 ^ n ≡ half + half
  rows = omega (arith, twice_half e, h)

  -- of a table whose entries have so many words
  module _ {width : ℕ} {ws : List ℕ} (w : WholeTable width n ws) where
    size : length ws ≡ width * half + width * half
    size =
        w.count ∙ ap (λ k. width * k) rows ∙ mul_comm width (half + half) ∙ add-mul half half width
        ∙ ap₂ ◌+◌ (mul_comm half width) (mul_comm half width)

    pub half_there : width * half ≤ length ws
    half_there = omega (arith, size)

    pub low_whole : WholeTable width m (take (width * half) ws)
    low_whole =
        record {
          count = length-take-le (width * half) ws half_there ∙ ap (λ k. width * k) h;
          below = unreduced_take p p_pos (width * half) ws w.below;
        }

    pub high_whole : WholeTable width m (after (width * half) ws)
    high_whole =
        let l : length (after (width * half) ws) ≡ length ws - width * half = after_length (width * half) ws in
        let s : length ws - width * half ≡ width * half = omega (arith, size) in
        record { count = l ∙ s ∙ ap (λ k. width * k) h; below = after_below (width * half) ws w.below }

  -- and their entries
  module _ {width : ℕ} {entry : List ℕ → ℕ → Ext} (parted : Parted width entry) (ws : List ℕ) where
    pub low_entry : (y : ℕ) → y < 2 ^ m → entry (take (width * half) ws) y ≡ entry ws y
    low_entry y b = parted.low half ws y (omega (arith, h))

    pub high_entry : (y : ℕ) → entry (after (width * half) ws) y ≡ entry ws (2 ^ m + y)
    high_entry y = parted.high half ws y ∙ ap (λ k. entry ws (k + y)) h
