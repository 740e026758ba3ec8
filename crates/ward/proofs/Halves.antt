-- The rows of both halves of at most 20 coordinates fit the arrays that are made for them. Assumes nothing.
use mathlib.Core.Path.{◌≡◌, ap, ◌∙◌}
use Prim.Native.Nat.{ℕ, ◌+◌, ◌/◌, ◌^◌, ◌≤◌}
use native.Mathlib.Omega.{arith}
use mathlib.Core.List.{List}
use lib.ListN.{length, take, replicate, length-replicate}
use lib.Pow.{pow_mono}
use lib.Seq.{length-take-le}
use Rattle.field.specs.declared.Element.{Element}
use Rattle.table.specs.Refusals.{most}
use Rattle.point.specs.declared.Point.{Point}
use Rattle.work.specs.Work.{first, others}
use Rattle.ward.specs.Inner.{Tables}

pub both_small : (k : ℕ) → k ≤ most → 2 ^ first k + 2 ^ others k ≤ 2048
both_small k h =
    let a : 2 ^ first k ≤ 2 ^ 10 = pow_mono {j = 10} (omega arith) in
    let b : 2 ^ others k ≤ 2 ^ 10 = pow_mono {j = 10} (omega arith) in
    omega arith

-- the words that are lent of the room
module _ {point : Point} {work : List ℕ} {scale : Element} (t : Tables point scale work) where
  pub fits : {room : List ℕ} → room ≡ replicate 8192 0 → length work / 4 ≤ length room
  fits e = omega (arith, t.room, both_small point.count point.tested.few, ap length e ∙ length-replicate {A = ℕ} 8192 0)

  pub lent : {room : List ℕ} → room ≡ replicate 8192 0 → length (take (length work / 4) room) ≡ length work / 4
  lent {room} e = length-take-le (length work / 4) room (fits e)
