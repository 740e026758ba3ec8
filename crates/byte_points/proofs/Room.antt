-- The words of bytes at the front of room that is lent for more. Assumes nothing.
use mathlib.Core.Path.{◌≡◌, ap, ◌∙◌}
use Prim.Native.Nat.{ℕ, ◌*◌, ◌≤◌}
use mathlib.Core.List.{List}
use lib.ListN.{length, take}
use lib.Seq.{length-take-le}
use Rattle.octets.specs.Octets.{words}
use Rattle.octets.proofs.Octets.{words_whole}

-- the first n words of w, lent and decoded into
pub decoded : (n : ℕ) (w bs l : List ℕ) → n ≤ length w → 4 * n ≡ length bs → l ≡ take (length (take n w)) (words bs) → l ≡ words bs
decoded n w bs l h e q = q ∙ ap (λ m. take m (words bs)) (length-take-le n w h) ∙ words_whole n bs e
