-- Words that are read one by one. Assumes nothing.
use mathlib.Core.Path.{◌≡◌, refl, sym, ap, ap₂, ◌∙◌}
use Prim.Native.Nat.{ℕ, zero, suc, ◌+◌, ◌-◌, ◌*◌, ◌/◌, ◌<◌, ◌≤◌}
use native.Mathlib.Omega.{arith}
use mathlib.Core.List.{List, [], ◌∷◌, ◌++◌, append-nil, append_assoc}
use lib.ListN.{length, take, drop, length-append, length-drop}
use lib.Seq.{get_or-take, get_or-drop, length-take-le}
use Rattle.frame.specs.Hex.{word_at, words_at}
use Rattle.frame.proofs.Grammar.{words_length}

-- the word behind the first d bytes
word_behind : (d : ℕ) (bs : List ℕ) (b : ℕ) → word_at (drop d bs) b ≡ word_at bs (d + b)
word_behind d bs b =
    let one : d + (b + 1) ≡ d + b + 1 = omega arith in
    let two : d + (b + 2) ≡ d + b + 2 = omega arith in
    let three : d + (b + 3) ≡ d + b + 3 = omega arith in
    rw (get_or-drop d bs b 0, get_or-drop d bs (b + 1) 0, get_or-drop d bs (b + 2) 0, get_or-drop d bs (b + 3) 0, one, two, three) refl

behind : (n d : ℕ) (bs : List ℕ) (b : ℕ) → words_at n (drop d bs) b ≡ words_at n bs (d + b)
unfolding words_at
behind zero d bs b = refl
behind (suc n) d bs b =
    let e : d + (b + 4) ≡ d + b + 4 = omega arith in
    ap₂ ◌∷◌ (word_behind d bs b) (behind n d bs (b + 4) ∙ ap (words_at n bs) e)

-- the words of the first m bytes
word_front : (m : ℕ) (bs : List ℕ) (b : ℕ) → b + 4 ≤ m → word_at (take m bs) b ≡ word_at bs b
word_front m bs b h =
    rw (
      get_or-take m bs b 0 (omega arith),
      get_or-take m bs (b + 1) 0 (omega arith),
      get_or-take m bs (b + 2) 0 (omega arith),
      get_or-take m bs (b + 3) 0 (omega arith),
    ) refl

front : (n m : ℕ) (bs : List ℕ) (b : ℕ) → b + 4 * n ≤ m → words_at n (take m bs) b ≡ words_at n bs b
unfolding words_at
front zero m bs b h = refl
front (suc n) m bs b h = ap₂ ◌∷◌ (word_front m bs b (omega arith)) (front n m bs (b + 4) (omega arith))

-- four bytes in front
first : (n : ℕ) (four later : List ℕ) → length four ≡ 4 → words_at (suc n) (four ++ later) 0 ≡ word_at four 0 ∷ words_at n later 0
unfolding words_at
first n [] later h = absurd (omega arith)
first n (a ∷ []) later h = absurd (omega arith)
first n (a ∷ b ∷ []) later h = absurd (omega arith)
first n (a ∷ b ∷ c ∷ []) later h = absurd (omega arith)
first n (a ∷ b ∷ c ∷ d ∷ []) later h = ap (λ ws. word_at (a ∷ b ∷ c ∷ d ∷ []) 0 ∷ ws) (sym (behind n 4 (a ∷ b ∷ c ∷ d ∷ later) 0))
first n (a ∷ b ∷ c ∷ d ∷ e ∷ bs) later h = absurd (omega arith)

-- the words of an `03` that are there, and those of the bytes that are left
pub record Read (count : ℕ) (bytes words left : List ℕ) (size : ℕ) : Type 0 where
  pub four : size ≡ 4
  pub are : words ++ words_at (length left / 4) left 0 ≡ words_at count bytes 2

pub none_yet : (count : ℕ) (bytes : List ℕ) → 2 + 4 * count ≤ length bytes → {left words : List ℕ} {size : ℕ}
    → left ≡ take (2 + 4 * count - 2) (drop 2 bytes) → words ≡ [] → size ≡ 4 → Read count bytes words left size
none_yet count bytes h e w s =
    let part : List ℕ = take (2 + 4 * count - 2) (drop 2 bytes) in
    let l : length part ≡ 2 + 4 * count - 2 = length-take-le (2 + 4 * count - 2) (drop 2 bytes) (omega (arith, length-drop 2 bytes)) in
    let q : length part / 4 ≡ count = omega arith in
    record { four = s; are = rw (w, e, q, front count (2 + 4 * count - 2) (drop 2 bytes) 0 (omega arith)) (behind count 2 bytes 0) }

module _ {count : ℕ} {bytes words left : List ℕ} {size : ℕ} (r : Read count bytes words left size) where
  module _ (four later : List ℕ) (e : left ≡ four ++ later) (h : length four ≡ size) where
    more : length left / 4 ≡ suc (length later / 4)
    more = omega (arith, ap length e, length-append four later, h, r.four)

    pub room : length words < count
    room =
        omega (
          arith,
          ap length r.are,
          length-append words (words_at (length left / 4) left 0),
          words_length (length left / 4) left 0,
          words_length count bytes 2,
          more,
        )

    next : words_at (length left / 4) left 0 ≡ word_at four 0 ∷ words_at (length later / 4) later 0
    next =
        ap (λ k. words_at k left 0) more ∙ ap (λ bs. words_at (suc (length later / 4)) bs 0) e
        ∙ first (length later / 4) four later (h ∙ r.four)

    pub one_more : {w : ℕ} → w ≡ word_at four 0 → {new : List ℕ} → new ≡ words ++ w ∷ [] → {still : ℕ} → still ≡ size
        → Read count bytes new later still
    one_more q n s =
        record {
          four = s ∙ r.four;
          are = rw (n, q, append_assoc) (ap (λ ws. words ++ ws) (sym next) ∙ r.are);
        }

  pub all_there : length left < size → words ≡ words_at count bytes 2
  unfolding words_at
  all_there h =
      let none : length left / 4 ≡ 0 = omega (arith, r.four) in
      sym (append-nil words) ∙ ap (λ k. words ++ words_at k left 0) (sym none) ∙ r.are

-- four words in a row
pub four : (bs : List ℕ) (b w₀ w₁ w₂ w₃ : ℕ) → w₀ ≡ word_at bs b → w₁ ≡ word_at bs (b + 4) → w₂ ≡ word_at bs (b + 8)
    → w₃ ≡ word_at bs (b + 12)
    → w₀ ∷ w₁ ∷ w₂ ∷ w₃ ∷ [] ≡ words_at 4 bs b
unfolding words_at
four bs b w₀ w₁ w₂ w₃ e₀ e₁ e₂ e₃ =
    let m : b + 4 + 4 ≡ b + 8 = omega arith in
    let n : b + 8 + 4 ≡ b + 12 = omega arith in
    rw (m, n, e₀, e₁, e₂, e₃)
