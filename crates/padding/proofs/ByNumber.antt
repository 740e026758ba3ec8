-- The padded table by the numbers of its words (specs/ByNumber.antt). Assumes nothing.
use mathlib.Core.Path.{◌≡◌, refl, sym, ap, ◌∙◌}
use mathlib.Core.Bool.{Bool, true, false, cond}
use Prim.Native.Nat.{ℕ, zero, suc, ◌+◌, ◌-◌, ◌*◌, ◌^◌, ◌≤◌, ◌<◌}
use native.Mathlib.Decide.{dec_lt}
use native.Mathlib.Nat.{mul-pos}
use native.Mathlib.Omega.{arith}
use mathlib.Core.List.{List, [], ◌∷◌, ◌++◌}
use lib.ListN.{length, get_or, take, drop, get_or-append}
use lib.Pow.{pow_pos}
use lib.Seq.{length-take-le, take-append_seam, get_or-append_seam}
use borrow.Author.Tests.{le-leb, lt-leb}
use Rattle.std.proofs.lemmas.List.{get_or-take}
use Rattle.multilinear.specs.declared.Side.{Side}
use Rattle.multilinear.specs.declared.Side.TheVariants.{Prefix, Suffix}
use Rattle.plan.specs.declared.Plan.{Plan}
use Rattle.plan.specs.Plan.{width, capacity}
use Rattle.padding.specs.Padding.{repeats, missing_word, appended, padded_table}
use Rattle.padding.specs.ByNumber.{word_at, ByNumber}
use Rattle.padding.proofs.Lasting.{length_more}
use Rattle.padding.proofs.Padded.{padded_length, padded_front, appended_front}

-- a table that has words has some in each row
row_there : (plan : Plan) → 0 < capacity plan → 0 < width plan
row_there plan h = mul-pos (pow_pos (plan.n - plan.k)) (go plan.columns h)
  where
    go : (c : ℕ) → 0 < c * 2 ^ plan.n → 0 < c
    go zero b = absurd (omega (arith, b))
    go (suc c) b = omega arith

-- a word that was appended is the one that follows those before it
appended_at : (m : ℕ) (word : List ℕ → ℕ) (ws : List ℕ) (t : ℕ) → length ws ≤ t → t < m + length ws
    → get_or (appended m word ws) t 0 ≡ word (take t (appended m word ws))
unfolding appended
appended_at zero word ws t h l = absurd (omega arith)
appended_at (suc m) word ws t h l = go (dec_lt (length ws) t) (λ a b. appended_at m word (ws ++ word ws ∷ []) t a b)
  where
    more : List ℕ
    more = ws ++ word ws ∷ []

    size : length more ≡ suc (length ws)
    size = length_more ws (word ws)

    Follows : Type 0
    Follows = get_or (appended m word more) t 0 ≡ word (take t (appended m word more))

    go : Dec (length ws < t) → (length more ≤ t → t < m + length more → Follows) → Follows
    go (yes b) later = later (omega (arith, size)) (omega (arith, size))
    go (no b) later =
        let e : t ≡ length ws = omega arith in
        let all = appended m word more in
        let front = appended_front m word more (length ws) (omega (arith, size)) in
        let next = appended_front m word more (suc (length ws)) (omega (arith, size)) in
        let one : get_or all (length ws) 0 ≡ word ws =
        sym (get_or-take (suc (length ws)) all (length ws) 0 (omega arith)) ∙ ap (λ vs. get_or vs (length ws) 0) next
        ∙ get_or-take (suc (length ws)) more (length ws) 0 (omega arith) ∙ get_or-append_seam ws (word ws) [] 0 in
        let before : take (length ws) all ≡ ws = front ∙ take-append_seam ws (word ws ∷ []) in
        rw e (one ∙ ap word (sym before))

module _ (plan : Plan) (came : List ℕ) where
  abbrev table : List ℕ
  table = padded_table plan came

  abbrev again : Bool
  again = repeats plan.side (width plan) (length came)

  -- a missing word
  missing_at : (t : ℕ) → length came ≤ t → t < capacity plan
      → word_at plan came t ≡ cond again (get_or (take t table) (t - width plan) 0) 0
  missing_at t h l =
      let size : length table ≡ capacity plan = padded_length plan came (omega arith) in
      let before : length (take t table) ≡ t = length-take-le t table (omega (arith, size)) in
      appended_at (capacity plan - length came) (missing_word plan (length came)) came t h (omega arith)
      ∙ ap (λ n. cond again (get_or (take t table) (n - width plan) 0) 0) before

  none_again : again ≡ false → (t : ℕ) → length came ≤ t → t < capacity plan → word_at plan came t ≡ 0
  none_again e t h l = missing_at t h l ∙ ap (λ b. cond b (get_or (take t table) (t - width plan) 0) 0) e

  earlier : plan.side ≡ Prefix → width plan ≤ length came → (t : ℕ) → length came ≤ t → t < capacity plan
      → word_at plan came t ≡ word_at plan came (t - width plan)
  earlier s r t h l =
      let e : again ≡ true = ap (λ x. repeats x (width plan) (length came)) s ∙ le-leb (width plan) (length came) r in
      let some : 0 < width plan = row_there plan (omega arith) in
      missing_at t h l ∙ ap (λ b. cond b (get_or (take t table) (t - width plan) 0) 0) e
      ∙ get_or-take t table (t - width plan) 0 (omega arith)

too_few_again : (side : Side) (inner came : ℕ) → came < inner → repeats side inner came ≡ false
too_few_again Prefix inner came h = lt-leb inner came h
too_few_again Suffix inner came h = refl

pub by_number : ByNumber
by_number =
    record {
      whole = padded_length;
      came_first = λ plan came t h.
          ap (λ ws. get_or ws t 0) (sym (padded_front plan came))
          ∙ get_or-append came (drop (length came) (padded_table plan came)) 0 t h;
      earlier = λ plan came t s r h l. earlier plan came s r t h l;
      too_few = λ plan came t f h l. none_again plan came (too_few_again plan.side (width plan) (length came) f) t h l;
      on_suffix = λ plan came t s h l. none_again plan came (ap (λ x. repeats x (width plan) (length came)) s) t h l;
    }
