-- Words to bytes and back, and bytes to words and back, are the same lists. Assumes nothing.
use mathlib.Core.Path.{◌≡◌, refl}
use mathlib.Core.List.{List, [], ◌∷◌}
use Prim.Native.Nat.{ℕ, suc, ◌+◌, ◌*◌, ◌/◌, ◌%◌, ◌<◌, ◌^◌}
use native.Mathlib.Omega.{arith}
use lib.ListN.{length, get_or}
use Rattle.octets.specs.Octets.{word_of, words, octets, Inverse}

back_to_words : (ws : List ℕ) → ((i : ℕ) → get_or ws i 0 < 2 ^ 32) → words (octets ws) ≡ ws
unfolding words octets
back_to_words [] h = refl
back_to_words (w ∷ ws) h =
    let fits : w < 2 ^ 32 = h 0 in
    let same : word_of (w % 256) (w / 256 % 256) (w / 65536 % 256) (w / 16777216) ≡ w = omega arith in
    λ i. same i ∷ back_to_words ws (λ k. h (suc k)) i

back_to_octets : (bs : List ℕ) → ((i : ℕ) → get_or bs i 0 < 2 ^ 8) → length bs % 4 ≡ 0 → octets (words bs) ≡ bs
unfolding words octets
back_to_octets [] h e = refl
back_to_octets (a ∷ []) h e = absurd (omega arith)
back_to_octets (a ∷ b ∷ []) h e = absurd (omega arith)
back_to_octets (a ∷ b ∷ c ∷ []) h e = absurd (omega arith)
back_to_octets (a ∷ b ∷ c ∷ d ∷ bs) h e =
    let ha : a < 256 = h 0 in
    let hb : b < 256 = h 1 in
    let hc : c < 256 = h 2 in
    let hd : d < 256 = h 3 in
    let ea : word_of a b c d % 256 ≡ a = omega arith in
    let qb : word_of a b c d / 256 ≡ d * 65536 + c * 256 + b = omega arith in
    let eb : word_of a b c d / 256 % 256 ≡ b = rw qb (omega arith) in
    let qc : word_of a b c d / 65536 ≡ d * 256 + c = omega arith in
    let ec : word_of a b c d / 65536 % 256 ≡ c = rw qc (omega arith) in
    let ed : word_of a b c d / 16777216 ≡ d = omega arith in
    λ i. ea i ∷ eb i ∷ ec i ∷ ed i ∷ back_to_octets bs (λ k. h (suc (suc (suc (suc k))))) (omega arith) i

pub inverse : Inverse
inverse = record { back_to_words = back_to_words; back_to_octets = back_to_octets }
