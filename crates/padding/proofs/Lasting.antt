-- The laws of the last words: how many they are, that they stay reduced, and that they are what they are called. Assumes nothing.
use mathlib.Core.Path.{◌≡◌, refl, sym, ap, ◌∙◌}
use mathlib.Core.Logic.{◌≢◌}
use mathlib.Core.Bool.{false}
use Prim.Native.Nat.{ℕ, suc, ◌+◌, ◌*◌, ◌/◌, ◌%◌, ◌≤◌, ◌<◌}
use native.Mathlib.Nat.{mul-le-mul_right, div-add-mod', mod-lt}
use native.Mathlib.Decide.{dec_lt}
use native.Mathlib.Omega.{arith}
use mathlib.Core.List.{List, [], ◌∷◌, ◌++◌, append-nil}
use lib.ListN.{length, get_or, set, length-append, length-set, get_or-append}
use lib.Seq.{append_snoc, get_or-append_seam, get_or-set_same, get_or-set_other}
use Rattle.algebra.specs.Words.{unreduced}
use Rattle.algebra.proofs.Words.{below, each_below, unreduced_set}
use Rattle.field.specs.Field.{p, p_pos}
use Rattle.multilinear.specs.declared.Side.{Side}
use Rattle.multilinear.specs.declared.Side.TheVariants.{Prefix, Suffix}
use Rattle.padding.specs.Last.{kept, kept_on}

-- last has, in each place of a row, the last word of that place among ws
pub record LastOf (inner : ℕ) (ws last : List ℕ) : Type 0 where
  pub is : (t : ℕ) → t < length ws → length ws ≤ t + inner → get_or last (t % inner) 0 ≡ get_or ws t 0

-- a list with a word behind it
pub length_more : (ws : List ℕ) (v : ℕ) → length (ws ++ v ∷ []) ≡ suc (length ws)
length_more ws v = length-append ws (v ∷ []) ∙ omega arith

-- as many as there were
pub kept_length : (inner t : ℕ) (ws last : List ℕ) → length (kept inner t ws last) ≡ length last
unfolding kept
kept_length inner t [] last = refl
kept_length inner t (w ∷ ws) last = kept_length inner (suc t) ws (set last (t % inner) w) ∙ length-set last (t % inner) w

-- reduced ones stay reduced
pub kept_below : (inner t : ℕ) (ws last : List ℕ) → unreduced p ws ≡ false → unreduced p last ≡ false
    → unreduced p (kept inner t ws last) ≡ false
unfolding kept
kept_below inner t [] last a b = b
kept_below inner t (w ∷ ws) last a b =
    kept_below inner (suc t) ws (set last (t % inner) w) (each_below p ws (λ i. below p (w ∷ ws) a p_pos (suc i)))
    (unreduced_set p p_pos last (t % inner) w (below p (w ∷ ws) a p_pos 0) b)

-- on either side
pub kept_on_length : (side : Side) (inner t : ℕ) (ws last : List ℕ) → length (kept_on side inner t ws last) ≡ length last
kept_on_length Prefix inner t ws last = kept_length inner t ws last
kept_on_length Suffix inner t ws last = refl

pub kept_on_below : (side : Side) (inner t : ℕ) (ws last : List ℕ) → unreduced p ws ≡ false → unreduced p last ≡ false
    → unreduced p (kept_on side inner t ws last) ≡ false
kept_on_below Prefix inner t ws last a b = kept_below inner t ws last a b
kept_on_below Suffix inner t ws last a b = b

-- no word came: any will do
pub last_none : (inner : ℕ) (last : List ℕ) → LastOf inner [] last
last_none inner last = record { is = λ t h k. absurd (omega arith) }

-- two words less than a row apart are not of one place
apart : (inner t l : ℕ) → t < l → l < t + inner → t % inner ≢ l % inner
apart inner t l h k e = go (dec_lt (t / inner) (l / inner))
  where
    q : t / inner * inner + t % inner ≡ t
    q = div-add-mod' t inner

    r : l / inner * inner + l % inner ≡ l
    r = div-add-mod' l inner

    go : Dec (t / inner < l / inner) → ⊥
    go (yes b) = let m : suc (t / inner) * inner ≤ l / inner * inner = mul-le-mul_right inner b in omega (arith, q, r)
    go (no b) =
        let m : l / inner * inner ≤ t / inner * inner = mul-le-mul_right {m = l / inner} {n = t / inner} inner (omega arith) in
        omega (arith, q, r)

-- a word more, where it is the last one of its place and the others are as they were
pub one_more : (inner : ℕ) (ws last last' : List ℕ) (v : ℕ) → LastOf inner ws last → get_or last' (length ws % inner) 0 ≡ v
    → ((i : ℕ) → i ≢ length ws % inner → get_or last' i 0 ≡ get_or last i 0) → LastOf inner (ws ++ v ∷ []) last'
one_more inner ws last last' v o e f = record { is = λ t h k. go t h k (dec_lt t (length ws)) }
  where
    go : (t : ℕ) → t < length (ws ++ v ∷ []) → length (ws ++ v ∷ []) ≤ t + inner → Dec (t < length ws)
        → get_or last' (t % inner) 0 ≡ get_or (ws ++ v ∷ []) t 0
    go t h k (yes b) =
        f (t % inner) (apart inner t (length ws) b (omega (arith, length_more ws v)))
        ∙ o.is t b (omega (arith, length_more ws v)) ∙ sym (get_or-append ws (v ∷ []) 0 t b)
    go t h k (no b) =
        let q : length ws ≡ t = omega (arith, length_more ws v) in
        ap (λ n. get_or last' (n % inner) 0) (sym q) ∙ e ∙ sym (get_or-append_seam ws v [] 0) ∙ ap (λ n. get_or (ws ++ v ∷ []) n 0) q

-- and words more
pub last_kept : (inner : ℕ) (ws vs last : List ℕ) → 0 < inner → inner ≤ length last → LastOf inner ws last
    → LastOf inner (ws ++ vs) (kept inner (length ws) vs last)
unfolding kept
last_kept inner ws [] last s r o = rw (append-nil ws) o
last_kept inner ws (v ∷ vs) last s r o =
    let place = length ws % inner in
    let m : place < length last = omega (arith, mod-lt (length ws) s) in
    let more : LastOf inner (ws ++ v ∷ []) (set last place v) =
    one_more inner ws last (set last place v) v o (get_or-set_same last place v 0 m) (λ i n. get_or-set_other last place i v 0 n) in
    rw (append_snoc ws v vs, length_more ws v) at
    (last_kept inner (ws ++ v ∷ []) vs (set last place v) s (omega (arith, length-set last place v)) more)
