-- The laws of the padded table: the missing words by the last ones, its length, its front, and that it is reduced. Assumes nothing.
use mathlib.Core.Path.{◌≡◌, refl, sym, ap, ◌∙◌}
use mathlib.Core.Bool.{Bool, true, false, cond}
use Prim.Native.Nat.{ℕ, zero, suc, ◌+◌, ◌-◌, ◌%◌, ◌≤◌, ◌<◌}
use native.Mathlib.Nat.{mod-eq-sub-mod}
use native.Mathlib.Omega.{arith}
use mathlib.Core.List.{List, [], ◌∷◌, ◌++◌, append-nil}
use lib.ListN.{length, get_or, take, drop, take-append-drop}
use lib.Seq.{append_snoc, take_all}
use borrow.Author.Tests.{leb-true}
use Rattle.std.proofs.lemmas.List.{take-append-le}
use Rattle.algebra.specs.Words.{unreduced}
use Rattle.algebra.proofs.Words.{below, each_below, unreduced_cons, unreduced_append}
use Rattle.multilinear.specs.declared.Side.{Side}
use Rattle.multilinear.specs.declared.Side.TheVariants.{Prefix, Suffix}
use Rattle.field.specs.Field.{p, p_pos}
use Rattle.plan.specs.declared.Plan.{Plan}
use Rattle.plan.specs.Plan.{width, capacity}
use Rattle.padding.specs.Padding.{repeats, missing_word, appended, padded_table}
use Rattle.padding.specs.Last.{words_from, missing_words}
use Rattle.padding.proofs.Lasting.{LastOf, length_more, one_more}

-- words one by one are those of a function of their places, where each is, as long as the list is good
words_appended : (word : List ℕ → ℕ) (f : ℕ → ℕ) (Good : List ℕ → Type 0) → ((ws : List ℕ) → Good ws → word ws ≡ f (length ws))
    → ((ws : List ℕ) → Good ws → Good (ws ++ word ws ∷ [])) → (m : ℕ) (ws : List ℕ) → Good ws
    → ws ++ words_from f (length ws) m ≡ appended m word ws
unfolding words_from appended
words_appended word f Good is more zero ws g = append-nil ws
words_appended word f Good is more (suc m) ws g =
    ap (λ v. ws ++ v ∷ words_from f (suc (length ws)) m) (sym (is ws g))
    ∙ sym (append_snoc ws (word ws) _) ∙ ap (λ n. (ws ++ word ws ∷ []) ++ words_from f n m) (sym (length_more ws (word ws)))
    ∙ words_appended word f Good is more m (ws ++ word ws ∷ []) (more ws g)

-- the word a row earlier is the last one of the place of the word behind ws
row_earlier : (inner : ℕ) (ws last : List ℕ) → 0 < inner → inner ≤ length ws → LastOf inner ws last
    → get_or ws (length ws - inner) 0 ≡ get_or last (length ws % inner) 0
row_earlier inner ws last s r o =
    sym (ap (λ n. get_or last n 0) (mod-eq-sub-mod r) ∙ o.is (length ws - inner) (omega arith) (omega arith))

-- the missing words are the last words of their places, or 0
missing : (b : Bool) (inner m : ℕ) (came last : List ℕ) → 0 < inner → (b ≡ true → (inner ≤ length came) × LastOf inner came last)
    → came ++ words_from (λ t. cond b (get_or last (t % inner) 0) 0) (length came) m
    ≡ appended m (λ ws. cond b (get_or ws (length ws - inner) 0) 0) came
missing false inner m came last s r = words_appended (λ ws. 0) (λ t. 0) (λ ws. Unit {0}) (λ ws g. refl) (λ ws g. tt) m came tt
missing true inner m came last s r =
    words_appended (λ ws. get_or ws (length ws - inner) 0) (λ t. get_or last (t % inner) 0) (λ ws. (inner ≤ length ws) × LastOf inner ws last)
    (λ ws g. row_earlier inner ws last s g.0 g.1)
    (λ ws g. (
      omega (arith, length_more ws (get_or ws (length ws - inner) 0), g.0),
      one_more inner ws last last _ g.1 (sym (row_earlier inner ws last s g.0 g.1)) (λ i n. refl),
    ))
    m came (r refl)

-- only a row that came is repeated
repeats_row : (side : Side) (inner came : ℕ) → repeats side inner came ≡ true → (inner ≤ came) × (side ≡ Prefix)
repeats_row Prefix inner came e = (leb-true inner came e, refl)
repeats_row Suffix inner came e = absurd (let z : ◌≡◌ {A = ℕ} 0 1 = cc in omega arith)

pub padded_is : (plan : Plan) (came last : List ℕ) → 0 < width plan → (plan.side ≡ Prefix → LastOf (width plan) came last)
    → came ++ missing_words plan (length came) last ≡ padded_table plan came
padded_is plan came last some o =
    missing (repeats plan.side (width plan) (length came)) (width plan) (capacity plan - length came) came last
    some (λ e. let h = repeats_row plan.side (width plan) (length came) e in (h.0, o h.1))

-- no word is missing
pub padded_full : (plan : Plan) (ws : List ℕ) → capacity plan ≤ length ws → padded_table plan ws ≡ ws
unfolding appended
padded_full plan ws h =
    let q : capacity plan - length ws ≡ 0 = omega arith in
    ap (λ m. appended m (missing_word plan (length ws)) ws) q

appended_length : (m : ℕ) (word : List ℕ → ℕ) (ws : List ℕ) → length (appended m word ws) ≡ m + length ws
unfolding appended
appended_length zero word ws = omega arith
appended_length (suc m) word ws =
    appended_length m word (ws ++ word ws ∷ []) ∙ omega (arith, length_more ws (word ws))

pub padded_length : (plan : Plan) (ws : List ℕ) → length ws ≤ capacity plan → length (padded_table plan ws) ≡ capacity plan
padded_length plan ws h = appended_length (capacity plan - length ws) (missing_word plan (length ws)) ws ∙ omega arith

-- the words that came stand in front
pub appended_front : (m : ℕ) (word : List ℕ → ℕ) (ws : List ℕ) (n : ℕ) → n ≤ length ws → take n (appended m word ws) ≡ take n ws
unfolding appended
appended_front zero word ws n h = refl
appended_front (suc m) word ws n h =
    appended_front m word (ws ++ word ws ∷ []) n (omega (arith, length_more ws (word ws))) ∙ take-append-le n ws (word ws ∷ []) h

pub padded_front : (plan : Plan) (ws : List ℕ) → ws ++ drop (length ws) (padded_table plan ws) ≡ padded_table plan ws
padded_front plan ws =
    let front = appended_front (capacity plan - length ws) (missing_word plan (length ws)) ws (length ws) (omega arith) in
    ap (λ vs. vs ++ drop (length ws) (padded_table plan ws)) (sym (front ∙ take_all (length ws) ws (omega arith)))
    ∙ take-append-drop (length ws) (padded_table plan ws)

appended_below : (m : ℕ) (word : List ℕ → ℕ) (ws : List ℕ) → ((vs : List ℕ) → unreduced p vs ≡ false → word vs < p)
    → unreduced p ws ≡ false → unreduced p (appended m word ws) ≡ false
unfolding appended
appended_below zero word ws b h = h
appended_below (suc m) word ws b h =
    appended_below m word (ws ++ word ws ∷ []) b
    (unreduced_append p ws (word ws ∷ []) h (unreduced_cons p (word ws) [] (b ws h) (each_below p [] (λ i. p_pos))))

pub padded_below : (plan : Plan) (ws : List ℕ) → unreduced p ws ≡ false → unreduced p (padded_table plan ws) ≡ false
padded_below plan ws h =
    appended_below (capacity plan - length ws) (missing_word plan (length ws)) ws
    (λ vs b. word_below (repeats plan.side (width plan) (length ws)) _ (below p vs b p_pos _)) h
  where
    word_below : (b : Bool) (w : ℕ) → w < p → cond b w 0 < p
    word_below true w h = h
    word_below false w h = p_pos
