-- Words read from bytes, from word `from` on: what is read is a part of the words of the bytes. Assumes nothing.
use mathlib.Core.Path.{◌≡◌, sym, ◌∙◌}
use mathlib.Core.List.{List}
use Prim.Native.Nat.{ℕ, ◌+◌, ◌*◌, ◌<◌, ◌≤◌}
use native.Mathlib.Omega.{arith}
use lib.ListN.{length, get_or, take, drop, length-drop}
use lib.Seq.{get_or-take, get_or-drop, length-take-le, ext_get_or}
use Rattle.octets.specs.Octets.{word_at, words}
use Rattle.octets.proofs.Octets.{words_length, words_at}

pub decoded : (bs ws : List ℕ) (from n : ℕ) → length ws ≡ n → ((k : ℕ) → k < n → get_or ws k 0 ≡ word_at bs (from + k))
    → 4 * (from + n) ≤ length bs → ws ≡ take n (drop from (words bs))
decoded bs ws from n l h fits =
    let room : n ≤ length (drop from (words bs)) = rw (length-drop from (words bs), words_length bs) (omega arith) in
    ext_get_or 0 ws (take n (drop from (words bs))) (l ∙ sym (length-take-le n (drop from (words bs)) room))
    (λ k b. let lt : k < n = omega arith in
    h k lt ∙ sym (get_or-take n (drop from (words bs)) k 0 lt ∙ get_or-drop from (words bs) k 0 ∙ words_at bs (from + k) (omega arith)))
