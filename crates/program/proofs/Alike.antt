-- A short list of words prints what the padded one prints (specs/Padded.antt). Assumes nothing.
use mathlib.Core.Path.{◌≡◌, refl, sym, ap, ap₂, ◌∙◌}
use mathlib.Core.Bool.{false}
use Prim.Native.Nat.{ℕ, zero, suc, ◌+◌, ◌≤◌, ◌<◌}
use native.Mathlib.Omega.{arith}
use mathlib.Core.List.{List, [], ◌∷◌, ◌++◌, append-nil, append_assoc}
use lib.ListN.{length, length-append}
use lib.Seq.{take-append_seam, drop-append_seam}
use Rattle.std.specs.Prelude.{Some}
use Rattle.algebra.specs.Words.{unreduced}
use Rattle.algebra.proofs.Words.{below, each_below, unreduced_cons, unreduced_take, unreduced_drop}
use Rattle.field.specs.Field.{p, p_pos}
use Rattle.plan.specs.declared.Plan.{Plan}
use Rattle.plan.specs.Plan.{capacity}
use Rattle.padding.specs.Padding.{padded_table}
use Rattle.padding.proofs.Padded.{padded_full, padded_length, padded_front, padded_below}
use Rattle.frame.specs.declared.Frame.TheVariants.{Words, Close}
use Rattle.frame.specs.Frame.{frame_of}
use Rattle.frame.specs.Written.{words_line, close_line}
use Rattle.frame.proofs.Written.{written}
use Rattle.runs.specs.Reader.{line_answer}
use Rattle.runs.specs.Runs.{words_by}
use Rattle.runs.proofs.Steps.{state}
use Rattle.runs.proofs.Within.{Within, within_start, within_line}
use Rattle.program.specs.Printed.{Came, start, next, fold_lines, out_text, unless_refused, says_from, end_line}
use Rattle.program.specs.Padded.{after_lines, AllWords, words_in, words_missing, word_lines, Padded}
use Rattle.program.proofs.Following.{next_by, says_line, says_refused, done_says, says_done, same_number, still_accepted}

-- the words that came and those of more lines are the table t, of words below p, and no more than there is room for
record Fills (s : Came) (more : List (List ℕ)) (t : List ℕ) : Type 0 where
  taken : s.reader.session.taken ≡ length s.words
  is : s.words ++ words_in more ≡ t
  fits : length t ≤ capacity s.reader.session.plan
  below : unreduced p t ≡ false

-- a part of words below p
part_below : (xs ys zs : List ℕ) → unreduced p (xs ++ (ys ++ zs)) ≡ false → unreduced p ys ≡ false
part_below xs ys zs h =
    rw (drop-append_seam xs (ys ++ zs), take-append_seam ys zs) at
    (unreduced_take p p_pos (length ys) _ (unreduced_drop p p_pos (length xs) _ h))

-- a line's words
abbrev words_of : List ℕ → List ℕ
words_of l = words_by (frame_of l)

module _ (s : Came) (l : List ℕ) (ls : List (List ℕ)) (t : List ℕ) (i : Fills s (l ∷ ls) t) where
  -- so there is room for the words of the first of them, and it gets what a `04` gets
  first_number : line_answer s.reader (Some (Words (words_of l))) ≡ line_answer s.reader (Some Close)
  first_number =
      let all = length-append s.words (words_of l ++ words_in ls) in
      let some = length-append (words_of l) (words_in ls) in
      same_number s.reader (words_of l)
      (record {
        below = part_below s.words (words_of l) (words_in ls) (rw i.is i.below);
        within = omega (arith, i.taken, i.fits, ap length i.is, all, some);
      })

  -- and the others fill the table behind it
  then_fills : Fills (next_by 0 (Some (Words (words_of l))) s) ls t
  then_fills =
      record {
        taken = ap (λ n. n + length (words_of l)) i.taken ∙ sym (length-append s.words (words_of l));
        is = append_assoc s.words (words_of l) (words_in ls) ∙ i.is;
        fits = i.fits;
        below = i.below;
      }

module _ (close : List ℕ) (rest : List (List ℕ)) (c : frame_of close ≡ Some Close) where
  -- an accepted `04` behind lines that fill a table prints the fold of it, padded
  all_taken : (more : List (List ℕ)) (s : Came) (t : List ℕ) → AllWords more → Fills s more t → line_answer s.reader (Some Close) ≡ 0
      → says_from end_line s (more ++ close ∷ rest)
      ≡ fold_lines s.reader.session.plan (padded_table s.reader.session.plan t) ++ done_says rest
  unfolding unless_refused
  all_taken [] s t w i a =
      let plan = s.reader.session.plan in
      let q : s.words ≡ t = sym (append-nil s.words) ∙ i.is in
      says_line s close rest 0 (Some Close) a c
      ∙ ap₂ (λ ws x. fold_lines plan (padded_table plan ws) ++ x) q (says_done s.reader _ rest)
  all_taken (l ∷ ls) s t w i a =
      let words = words_of l in
      says_line s l (ls ++ close ∷ rest) 0 (Some (Words words)) (first_number s l ls t i ∙ a) w.0
      ∙ all_taken ls (next_by 0 (Some (Words words)) s) t w.1 (then_fills s l ls t i) (still_accepted s.reader words a)

  -- where it is refused, the first of them gets its number
  none_taken : (more : List (List ℕ)) (s : Came) (t : List ℕ) (n : ℕ) → AllWords more → Fills s more t
      → line_answer s.reader (Some Close) ≡ suc n → says_from end_line s (close ∷ rest) ≡ says_from end_line s (more ++ close ∷ rest)
  none_taken [] s t n w i a = refl
  none_taken (l ∷ ls) s t n w i a =
      says_refused s close rest n (Some Close) a c
      ∙ sym (says_refused s l (ls ++ close ∷ rest) n (Some (Words (words_of l))) (first_number s l ls t i ∙ a) w.0)

  module _ (s : Came) (i : Within (state s.reader [] []) s.words) (more : List (List ℕ)) (w : AllWords more) where
    abbrev plan : Plan
    plan = s.reader.session.plan

    abbrev table : List ℕ
    table = padded_table plan s.words

    full : length table ≡ capacity plan
    full = padded_length plan s.words i.fits

    came : Fills s [] s.words
    came = record { taken = i.counted.count; is = append-nil s.words; fits = i.fits; below = i.below }

    filled : s.words ++ words_in more ≡ table → Fills s more table
    filled e = record { taken = i.counted.count; is = e; fits = omega (arith, full); below = padded_below plan s.words i.below }

    -- so from any state that lines leave
    says_alike : s.words ++ words_in more ≡ table → says_from end_line s (close ∷ rest) ≡ says_from end_line s (more ++ close ∷ rest)
    says_alike e = go (line_answer s.reader (Some Close)) refl
      where
        go : (n : ℕ) → line_answer s.reader (Some Close) ≡ n → says_from end_line s (close ∷ rest) ≡ says_from end_line s (more ++ close ∷ rest)
        go (suc n) a = none_taken more s table n w (filled e) a
        go zero a =
            all_taken [] s s.words tt came a
            ∙ ap (λ ws. fold_lines plan ws ++ done_says rest) (sym (padded_full plan table (omega (arith, full))))
            ∙ sym (all_taken more s table w (filled e) a)

-- every list of lines leaves such a state
lines_within : (lines : List (List ℕ)) (s : Came) → Within (state s.reader [] []) s.words
    → Within (state (after_lines lines s).reader [] []) (after_lines lines s).words
lines_within [] s i = i
lines_within (l ∷ lines) s i = lines_within lines (next l s) (within_line l s.reader s.words i)

-- and prints the same with what prints the same from there on
same_then : (lines xs ys : List (List ℕ)) (s : Came) → says_from end_line (after_lines lines s) xs ≡ says_from end_line (after_lines lines s) ys
    → says_from end_line s (lines ++ xs) ≡ says_from end_line s (lines ++ ys)
unfolding says_from
same_then [] xs ys s e = e
same_then (l ∷ lines) xs ys s e =
    ap (λ x. unless_refused (line_answer s.reader (frame_of l)) (out_text (frame_of l) s ++ x)) (same_then lines xs ys (next l s) e)

-- words below p, as lines of one word each, are `03` lines of these words
one_back : (w : ℕ) → w < p → frame_of (words_line (w ∷ [])) ≡ Some (Words (w ∷ []))
unfolding unreduced
one_back w h = written.words_back (w ∷ []) (omega arith) (λ i. omega (arith, below p (w ∷ []) (unreduced_cons p w [] h refl) p_pos i))

word_lines_all : (ws : List ℕ) → unreduced p ws ≡ false → AllWords (word_lines ws)
word_lines_all [] h = tt
word_lines_all (w ∷ ws) h =
    let e = one_back w (below p (w ∷ ws) h p_pos 0) in
    (e ∙ ap (λ x. Some (Words (words_by x))) (sym e), word_lines_all ws (each_below p ws (λ i. below p (w ∷ ws) h p_pos (suc i))))

word_lines_in : (ws : List ℕ) → unreduced p ws ≡ false → words_in (word_lines ws) ≡ ws
word_lines_in [] h = refl
word_lines_in (w ∷ ws) h =
    ap₂ ◌++◌ (ap words_by (one_back w (below p (w ∷ ws) h p_pos 0)))
    (word_lines_in ws (each_below p ws (λ i. below p (w ∷ ws) h p_pos (suc i))))

module _ (lines rest : List (List ℕ)) where
  abbrev came_to : Came
  came_to = after_lines lines start

  within : Within (state came_to.reader [] []) came_to.words
  within = lines_within lines start (within_start [] [])

  alike : (more : List (List ℕ)) (close : List ℕ) → AllWords more → frame_of close ≡ Some Close
      → came_to.words ++ words_in more ≡ padded_table came_to.reader.session.plan came_to.words
      → says_from end_line start (lines ++ close ∷ rest) ≡ says_from end_line start (lines ++ more ++ close ∷ rest)
  alike more close w c e =
      same_then lines (close ∷ rest) (more ++ close ∷ rest) start (says_alike close rest c came_to within more w e)
      ∙ ap (says_from end_line start) (sym (append_assoc lines more (close ∷ rest)))

  missing_below : unreduced p (words_missing came_to) ≡ false
  missing_below = unreduced_drop p p_pos _ _ (padded_below came_to.reader.session.plan came_to.words within.below)

  one_by_one : says_from end_line start (lines ++ close_line ∷ rest)
      ≡ says_from end_line start (lines ++ word_lines (words_missing came_to) ++ close_line ∷ rest)
  one_by_one =
      alike (word_lines (words_missing came_to)) close_line (word_lines_all (words_missing came_to) missing_below) written.close_back
      (ap (λ ws. came_to.words ++ ws) (word_lines_in (words_missing came_to) missing_below)
      ∙ padded_front came_to.reader.session.plan came_to.words)

pub padded : Padded
padded =
    record {
      alike = λ lines more rest close w c e. alike lines rest more close w c e;
      one_by_one = λ lines rest. one_by_one lines rest;
    }
