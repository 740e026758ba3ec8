-- Behind more words there are fewer zeros. Assumes nothing.
use Rattle.std.proofs.Common.{◌≡◌, ℕ, ◌+◌, ◌-◌, List, drop, replicate, refl, arith}
use Rattle.std.proofs.lemmas.List.{drop-drop, drop-replicate}

pub fewer : (most : ℕ) (room : List ℕ) (n k : ℕ) → drop n room ≡ replicate (most - n) 0 → drop (n + k) room ≡ replicate (most - (n + k)) 0
fewer most room n k e =
    let q : most - n - k ≡ most - (n + k) = omega arith in
    rw (← drop-drop k n room, e, drop-replicate {X = ℕ} k (most - n) 0, q) refl
