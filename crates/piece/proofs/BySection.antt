-- A fold on the suffix side, section after section, each in its part of out: how that starts, steps and ends. Assumes nothing.
use mathlib.Core.Path.{◌≡◌, sym, ap, ◌∙◌}
use Prim.Native.Nat.{ℕ, ◌+◌, ◌-◌, ◌*◌, ◌^◌, ◌≤◌, ◌<◌, min}
use native.Mathlib.Nat.{mul-zero, mul-add, mul-one, mul_assoc, mul_comm, mul-le-mul_left}
use native.Mathlib.Omega.{arith}
use mathlib.Core.List.{List}
use lib.ListN.{length, get_or, take, drop, length-drop}
use lib.Seq.{length-take-le, get_or-take, get_or-drop}
use lib.Pow.{pow-add}
use borrow.Rule.Slice.PartMut.{mid_of, put_mid}
use Rattle.algebra.proofs.Words.{unreduced_take, unreduced_drop}
use Rattle.multilinear.specs.declared.Side.{Side}
use Rattle.multilinear.specs.declared.Side.TheVariants.{Suffix}
use Rattle.field.specs.Field.{p, p_pos, Ext, base}
use Rattle.table.specs.Table.{table_words}
use Rattle.table.proofs.Laws.{table_length, table_append}
use Rattle.plan.specs.declared.Plan.{Plan}
use Rattle.plan.specs.Plan.{rows, width, capacity, out_of, fold_of}
use Rattle.plan.specs.Sound.{Fills}
use Rattle.plan.specs.Section.{section_of, origin_of}
use Rattle.plan.proofs.OneColumn.{one_column, one_width, one_table}
use Rattle.plan.proofs.Sections.{part_sound, section}
use Rattle.piece.proofs.Fronts.{Front, front_start, front_lent, front_turn, front_end}

-- place i of the whole fold
abbrev whole_at : Plan → List ℕ → ℕ → Ext
whole_at plan ws i = out_of plan (λ t. base (get_or ws t 0)) i

-- the first m places stand in out
pub record Joined (plan : Plan) (table : List ℕ) (m : ℕ) (was out : List ℕ) : Type 0 where
  pub front : Front (4 * m) (table_words m (whole_at plan table)) was out

-- on the suffix side a section's words are neighbours
origin : (side : Side) → side ≡ Suffix → (inner rows places from t : ℕ) → origin_of side inner rows places from t ≡ from * rows + t
unfolding origin_of
origin side q inner rows places from t = ap (λ x. origin_of x inner rows places from t) q

-- count parts of some size are all: part j is within
part_within : (size count j : ℕ) → j < count → size * j + size ≤ size * count
part_within size count j b =
    let le : size * (j + 1) ≤ size * count = mul-le-mul_left {m = j + 1} {n = count} size (omega arith) in
    omega (arith, mul-add size j 1, mul-one size)

-- the whole of it, on the suffix side, which has one column
module _ {plan : Plan} {table was : List ℕ} (f : Fills plan table was × (plan.side ≡ Suffix)) {held size words count : ℕ}
    (h : held ≡ min (plan.n - plan.k) 10) (r : size ≡ 2 ^ held) (w : words ≡ 2 ^ (plan.k + held))
    (c : count ≡ 2 ^ (plan.n - plan.k - held)) where
  abbrev s : Fills plan table was
  s = f.0

  one : plan.columns ≡ 1
  one = one_column s.sound f.1

  held_fits : held ≤ plan.n - plan.k
  held_fits = omega (arith, h)

  pub start : Joined plan table (size * 0) was was
  unfolding table_words
  start = record { front = rw (mul-zero size) (front_start was) }

  all_places : size * count ≡ width plan
  all_places =
      let q : held + (plan.n - plan.k - held) ≡ plan.n - plan.k = omega arith in
      rw (r, c) (sym (pow-add 2 held (plan.n - plan.k - held)) ∙ ap (λ m. 2 ^ m) q) ∙ sym (one_width plan one)

  all_words : words * count ≡ capacity plan
  all_words =
      let q : plan.k + held + (plan.n - plan.k - held) ≡ plan.n = omega (arith, s.sound.fits) in
      rw (w, c) (sym (pow-add 2 (plan.k + held) (plan.n - plan.k - held)) ∙ ap (λ m. 2 ^ m) q) ∙ sym (one_table plan one)

  -- a section has as many places and words
  part_places : width (section_of plan held) ≡ size
  part_places = let q : plan.k + held - plan.k ≡ held = omega arith in one_width (section_of plan held) one ∙ ap (λ m. 2 ^ m) q ∙ sym r

  part_words : capacity (section_of plan held) ≡ words
  part_words = one_table (section_of plan held) one ∙ sym w

  module _ {j : ℕ} (b : j < count) where
    pub out_within : 4 * (size * j) + 4 * size ≤ length was
    out_within = omega (arith, part_within size count j b, all_places, s.room)

    pub table_within : words * j + words ≤ length table
    table_within = omega (arith, part_within words count j b, all_words, s.count)

    words_before : size * j * rows plan ≡ words * j
    words_before =
        rw (w, r, pow-add 2 plan.k held)
        (mul_comm (2 ^ held * j) (2 ^ plan.k) ∙ sym (mul_assoc (2 ^ plan.k) (2 ^ held) j))

    -- the section's words
    abbrev part : List ℕ
    part = take (words * j + words - words * j) (drop (words * j) table)

    part_size : words * j + words - words * j ≡ words
    part_size = omega arith

    part_at : (t : ℕ) → t < words → get_or part t 0 ≡ get_or table (words * j + t) 0
    part_at t l =
        get_or-take (words * j + words - words * j) (drop (words * j) table) t 0 (omega (arith, part_size)) ∙ get_or-drop (words * j) table t 0

    module _ {σ : Plan} (e : σ ≡ section_of plan held) {out : List ℕ} (d : Joined plan table (size * j) was out) where
      abbrev a : ℕ
      a = 4 * (size * j)

      lent : length (mid_of a (a + 4 * size - a) out) ≡ 4 * width (section_of plan held)
      lent = front_lent d.front (4 * size) out_within ∙ ap (λ m. 4 * m) (sym part_places)

      pub fills : Fills σ part (mid_of a (a + 4 * size - a) out)
      fills =
          rw e
          (record {
            sound = part_sound s.sound held_fits;
            count = length-take-le (words * j + words - words * j) (drop (words * j) table)
                (omega (arith, table_within, length-drop (words * j) table)) ∙ part_size ∙ sym part_words;
            below = unreduced_take p p_pos (words * j + words - words * j) (drop (words * j) table)
                (unreduced_drop p p_pos (words * j) table s.below);
            room = lent;
          })

      pub turn : {ys : List ℕ} → ys ≡ fold_of σ part
          → Joined plan table (size * (j + 1)) was (put_mid a (a + 4 * size - a) out ys)
      turn {ys} q =
          let more : size * (j + 1) ≡ size * j + size = mul-add size j 1 ∙ ap (λ m. size * j + m) (mul-one size) in
          let next : a + 4 * size ≡ 4 * (size * j + size) = omega arith in
          let new : ys ≡ table_words size (λ i. whole_at plan table (size * j + i)) =
          q ∙ ap (λ (x : Plan). fold_of x part) e
          ∙ section s.sound held_fits (size * j) (λ t. base (get_or table t 0)) (λ t. base (get_or part t 0))
          (λ t l. ap base
          (part_at t (rw part_words at l) ∙ ap (λ m. get_or table (m + t) 0) (sym words_before)
          ∙ ap (λ m. get_or table m 0) (sym (origin plan.side f.1 (width plan) (rows plan) (width (section_of plan held)) (size * j) t))))
          ∙ ap (λ m. table_words m (λ i. whole_at plan table (size * j + i))) part_places in
          record {
            front = rw (more, table_append (size * j) size (whole_at plan table), ← new, ← next)
                (front_turn d.front (4 * size) out_within ys (ap length new ∙ table_length size _));
          }

  pub finish : {j : ℕ} {out : List ℕ} → Joined plan table (size * j) was out → j ≤ count → count ≤ j → out ≡ fold_of plan table
  finish {j} d l g =
      let q : j ≡ count = omega arith in
      let all : size * j ≡ width plan = ap (λ i. size * i) q ∙ all_places in
      front_end (rw all at d.front) s.room
