-- The missing words as words of a table, and what its places gain of them: nothing, or their last word by the weights of the rows from
-- one on. Assumes nothing.
use mathlib.Core.Path.{◌≡◌, refl, sym, ap, ◌∙◌}
use mathlib.Core.Bool.{true, false, cond}
use Prim.Native.Nat.{ℕ, zero, suc, ◌+◌, ◌-◌, ◌*◌, ◌%◌, ◌^◌, ◌≤◌, ◌<◌}
use native.Mathlib.Nat.{mul-add-mod_self_right, mod-eq_of_lt}
use native.Mathlib.Decide.{dec_lt}
use native.Mathlib.Omega.{arith}
use mathlib.Core.List.{List}
use lib.ListN.{length, get_or}
use borrow.Author.Tests.{le-leb, lt-leb}
use Rattle.algebra.specs.Words.{unreduced}
use Rattle.multilinear.specs.declared.Side.TheVariants.{Prefix, Suffix}
use Rattle.multilinear.specs.Folds.{word_of}
use Rattle.multilinear.proofs.Tails.{tail_laws}
use Rattle.field.specs.Field.{p, Ext, field, base, from_words}
use Rattle.field.proofs.Laws.{field_ring, base_zero}
use Rattle.table.specs.Table.{placed}
use Rattle.table.proofs.Gaining.{nothing, gained_as, gained_table}
use Rattle.table.proofs.Placed.{placed_before, placed_word}
use Rattle.table.proofs.Tests.{reduced_at}
use Rattle.plan.specs.declared.Plan.{Plan}
use Rattle.plan.specs.Plan.{rows, width, capacity, coordinates_of, out_of, gained_by}
use Rattle.plan.specs.Sound.{Sound}
use Rattle.plan.proofs.Columns.{place_ext, place_none, all_words, in_rows}
use Rattle.plan.proofs.Sections.{group_within}
use Rattle.padding.specs.Padding.{repeats}
use Rattle.padding.specs.Last.{words_from, missing_words}
use Rattle.padding.specs.Inner.{scaled_tail}
use Rattle.padding.proofs.Weights.{all_rows}

-- word i of a function's words
words_at : (f : ℕ → ℕ) (t m i : ℕ) → i < m → get_or (words_from f t m) i 0 ≡ f (t + i)
unfolding words_from
words_at f t zero i h = absurd (omega arith)
words_at f t (suc m) zero h = let q : t ≡ t + 0 = omega arith in ap f q
words_at f t (suc m) (suc i) h = let q : suc t + i ≡ t + suc i = omega arith in words_at f (suc t) m i (omega arith) ∙ ap f q

words_none : (f : ℕ → ℕ) → ((t : ℕ) → f t ≡ 0) → (t m i : ℕ) → get_or (words_from f t m) i 0 ≡ 0
unfolding words_from
words_none f e t zero i = refl
words_none f e t (suc m) zero = e t
words_none f e t (suc m) (suc i) = words_none f e (suc t) m i

module _ (f : ℕ → ℕ) (from m : ℕ) where
  placed_there : (t : ℕ) → from ≤ t → t < from + m → placed from (words_from f from m) t ≡ f t
  placed_there t h l =
      let q : from + (t - from) ≡ t = omega arith in
      ap (placed from (words_from f from m)) (sym q) ∙ placed_word from (words_from f from m) (t - from)
      ∙ words_at f from m (t - from) (omega arith) ∙ ap f q

  placed_nothing : ((t : ℕ) → f t ≡ 0) → (t : ℕ) → placed from (words_from f from m) t ≡ 0
  placed_nothing e t = go (dec_lt t from)
    where
      go : Dec (t < from) → placed from (words_from f from m) t ≡ 0
      go (yes h) = placed_before from (words_from f from m) t h
      go (no h) =
          let q : from + (t - from) ≡ t = omega arith in
          ap (placed from (words_from f from m)) (sym q) ∙ placed_word from (words_from f from m) (t - from)
          ∙ words_none f e from m (t - from)

module _ (plan : Plan) (taken : ℕ) where
  -- no row is repeated before one came, or on the suffix side
  pub row_short : plan.side ≡ Prefix → taken < width plan → repeats plan.side (width plan) taken ≡ false
  row_short e h = ap (λ s. repeats s (width plan) taken) e ∙ lt-leb (width plan) taken h

  pub on_suffix : plan.side ≡ Suffix → repeats plan.side (width plan) taken ≡ false
  on_suffix e = ap (λ s. repeats s (width plan) taken) e

module _ (plan : Plan) (taken : ℕ) (last : List ℕ) where
  -- the missing words, and what place i gains of them
  abbrev missing : ℕ → ℕ
  missing t = placed taken (missing_words plan taken last) t

  abbrev pub gain : ℕ → Ext
  gain i = out_of plan (λ t. base (missing t)) i

  -- where no row is repeated they are 0
  module _ (e : repeats plan.side (width plan) taken ≡ false) where
    no_gain : (i : ℕ) → gain i ≡ field.zero
    no_gain i =
        place_ext plan _ (λ t. field.zero)
        (λ t. ap base (placed_nothing _ taken _ (λ u. ap (λ b. cond b (get_or last (u % width plan) 0) 0) e) t) ∙ base_zero) _ _
        ∙ place_none plan _ _

    pub unpadded : {out : List ℕ} → length out ≡ 4 * width plan → unreduced p out ≡ false
        → out ≡ gained_by plan taken (missing_words plan taken last) out
    unpadded {out} room below =
        gained_table (width plan) gain out out
        (gained_as gain (nothing 0 (width plan) out (λ y h. reduced_at out below (0 + y))) (λ y h. sym (no_gain y))) room

  -- on the prefix side, where a row came, each is the last word of its place
  module _ (side-is : plan.side ≡ Prefix) (row-came : width plan ≤ taken) (ok : Sound plan) where
    repeated : repeats plan.side (width plan) taken ≡ true
    repeated = ap (λ s. repeats s (width plan) taken) side-is ∙ le-leb (width plan) taken row-came

    place_again : (i y : ℕ) → i < width plan → (y * width plan + i) % width plan ≡ i
    place_again i y h = mul-add-mod_self_right y (width plan) i ∙ mod-eq_of_lt h

    last_there : (i y : ℕ) → i < width plan → y < rows plan → taken ≤ y * width plan + i
        → missing (y * width plan + i) ≡ get_or last i 0
    last_there i y h l a =
        let w = group_within y (width plan) i (rows plan) l h in
        placed_there _ taken (capacity plan - taken) (y * width plan + i) a (omega (arith, w, all_words plan ok.fits))
        ∙ ap (λ b. cond b (get_or last ((y * width plan + i) % width plan) 0) 0) repeated
        ∙ ap (λ n. get_or last n 0) (place_again i y h)

    -- the words of place i are missing from row m on
    pub gain_is : (m i : ℕ) → i < width plan → ((y : ℕ) → y < m → y * width plan + i < taken)
        → ((y : ℕ) → m ≤ y → taken ≤ y * width plan + i) → gain i ≡ field.mul (scaled_tail plan m) (base (get_or last i 0))
    gain_is m i h before behind =
        in_rows ok (λ t. base (missing t)) i
        ∙ (tail_laws field_ring).constant plan.side plan.weight (width plan) (coordinates_of plan) (from_words plan.scale)
        (base (get_or last i 0)) (λ t. base (missing t)) i m
        (λ y b l. ap base (ap missing (stands y) ∙ placed_before taken _ (y * width plan + i) (before y b)) ∙ base_zero)
        (λ y b l. ap base (ap missing (stands y) ∙ last_there i y h (rw (all_rows plan.coordinates plan.k) at l) (behind y b)))
      where
        stands : (y : ℕ) → word_of plan.side (width plan) (2 ^ length (coordinates_of plan)) i y ≡ y * width plan + i
        stands y = ap (λ s. word_of s (width plan) (2 ^ length (coordinates_of plan)) i y) side-is
