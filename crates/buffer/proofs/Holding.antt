-- As many more items as a room has place for. Assumes nothing.
use Rattle.std.proofs.Common.{◌≡◌, ℕ, ◌-◌, ◌≤◌, List, ◌++◌, length, take, min, arith, length-take-le}
use Rattle.std.proofs.lemmas.List.{take_min}
use Rattle.std.proofs.Math.Seq.{take-append-add}

-- behind the first `count` in a room of n
pub held : {A : Type 0} {n count k : ℕ} (room ys : List A) {xs new : List A} → take count room ≡ xs → length room ≡ n → count ≤ n
    → k ≡ min (length ys) (n - count) → new ≡ xs ++ take k ys → new ≡ take n (xs ++ ys)
held {n = n} {count} room ys {xs} v l h q e =
    grind (arith, length-take-le count room, take_min (n - count) ys, take-append-add xs ys (n - count))
